use Rattle.std.proofs.Common.{◌≡◌}
use Rattle.group_index.specs.Places.{last_below}
use Rattle.group_index.specs.Chains.{IsOnChain, has_hash, hashes_of}
use Rattle.group_index.proofs.chains.go_along.Given as goal

abbrev pub invariant-loop-place : goal.invariant-loop-place
invariant-loop-place l = record {
  on : IsOnChain l.links l.hash l.place;
  same : last_below (has_hash (hashes_of l.links) l.hash) l.start ≡ last_below (has_hash (hashes_of l.links) l.hash) l.place;
}

abbrev pub decreases-loop-place : goal.decreases-loop-place
decreases-loop-place l = l.place
