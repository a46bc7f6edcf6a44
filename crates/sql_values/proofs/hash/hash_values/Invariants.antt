use Rattle.std.proofs.Common.{◌≡◌, drop}
use Rattle.std.specs.List.{flat_map}
use Rattle.sql_values.specs.Buckets.{bytes_of, hash_after}
use Rattle.sql_values.proofs.hash.hash_values.Given as goal

-- the hash so far, then the rest
abbrev pub invariant-loop-value : goal.invariant-loop-value
invariant-loop-value l =
    hash_after l.initial.hash (flat_map bytes_of l.values) ≡ hash_after l.hash (flat_map bytes_of (drop l.value-index l.values))
