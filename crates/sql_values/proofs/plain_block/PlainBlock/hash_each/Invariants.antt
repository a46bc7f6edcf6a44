use Rattle.std.proofs.Common.{◌≡◌, ℕ, ◌<◌, ◌≤◌, length, get_or}
use Rattle.sql_values.specs.Buckets.{bytes_of, hash_after}
use Rattle.sql_values.specs.declared.value.Value.TheVariants as value
use Rattle.sql_values.proofs.plain_block.PlainBlock.hash_each.Given as goal

-- the hashes so far went on, the others are the old ones
abbrev pub invariant-loop-place : goal.invariant-loop-place
invariant-loop-place l = record {
  len : length l.hashes ≡ length l.initial.hashes;
  before : (k : ℕ) → k < l.place → get_or l.hashes k 0 ≡ hash_after (get_or l.initial.hashes k 0) (bytes_of (get_or l.self.cells k value.Null));
  behind : (k : ℕ) → l.place ≤ k → get_or l.hashes k 0 ≡ get_or l.initial.hashes k 0;
}
