-- A putter that puts Ends.
use Rattle.std.proofs.Common.{◌≡◌, ℕ, ◌+◌, List, [], ◌∷◌, ◌++◌, arith}
use Rattle.std.proofs.lemmas.List.Sums.{sum_by_push}
use Rattle.output_buffer.specs.declared.piece.Piece.{Piece}
use Rattle.output_buffer.specs.declared.piece.Piece.TheVariants.{End}
use Rattle.output_buffer.specs.Edges.{end_count, ends_in}

pub one_end_more : (put : List Piece) (number : ℕ) → end_count (put ++ End number ∷ []) ≡ end_count put + 1
one_end_more put number = sum_by_push ends_in put (End number)
