use Rattle.std.proofs.Common.{◌≡◌, map, take}
use Rattle.group_index.specs.Chains.{head_of}
use Rattle.group_index.proofs.chains.heads_of.Given as goal

abbrev pub invariant-loop-hash : goal.invariant-loop-hash
invariant-loop-hash l = l.found.items ≡ map (head_of l.mask l.heads) (take l.hash-index l.hashes)
