use Rattle.std.proofs.Common.{◌≡◌, drop}
use Rattle.std.specs.Prelude.{bytes_eq}
use Rattle.group_index.proofs.index.are_same_bytes.Given as goal

-- the bytes so far are the same, the rest decides
abbrev pub invariant-loop-place : goal.invariant-loop-place
invariant-loop-place l = bytes_eq l.bytes l.others ≡ bytes_eq (drop l.place l.bytes) (drop l.place l.others)
