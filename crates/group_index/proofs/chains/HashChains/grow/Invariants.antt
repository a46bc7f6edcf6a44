use Rattle.std.proofs.Common.{◌≡◌, take}
use Rattle.group_index.specs.Chains.{hashes_of}
use Rattle.group_index.proofs.chains.HashChains.grow.Given as goal

abbrev pub invariant-loop-link : goal.invariant-loop-link
invariant-loop-link l = l.larger ≡ take l.link-index (hashes_of l.link-items)
