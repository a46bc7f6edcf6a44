use Rattle.std.proofs.Common.{◌≡◌, ◌-◌, ◌^◌, None, get_or, min, take}
use Rattle.std.specs.Prelude.{slice_index_or}
use Rattle.std.specs.List.{sum_by}
use Rattle.columns.specs.Pieces.{bytes_of}
use Rattle.columns.proofs.texts.Texts.bytes_of.Given as goal

-- the bytes so far, or the most
abbrev pub invariant-loop-place : goal.invariant-loop-place
invariant-loop-place l = l.sum ≡ min (sum_by (λ p. bytes_of (slice_index_or l.self p None)) (take l.place-index l.places)) (2 ^ 64 - 1)
