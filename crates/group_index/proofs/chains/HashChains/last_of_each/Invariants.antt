use Rattle.std.proofs.Common.{◌≡◌, length, map, take}
use Rattle.group_index.specs.Chains.{last_of_hash}
use Rattle.group_index.proofs.chains.HashChains.last_of_each.Given as goal

abbrev pub invariant-loop-place : goal.invariant-loop-place
invariant-loop-place l = l.lasts.items ≡ map (λ hash. last_of_hash l.self hash (length l.self)) (take l.place l.hashes)
