use Rattle.std.proofs.Common.{◌≡◌, ◌++◌, drop}
use Rattle.page_processor.specs.Positions.{true_at}
use Rattle.page_processor.proofs.filter.true_positions.Given as goal

abbrev pub invariant-loop-place : goal.invariant-loop-place
invariant-loop-place l = true_at l.cells.cells l.positions ≡ l.kept.items ++ true_at (drop l.place l.cells.cells) (drop l.place l.positions)
