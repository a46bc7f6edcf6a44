use Rattle.dyn_filter.specs.Rows.{row_passes}
use Rattle.dyn_filter.proofs.HashedLemmas.{ArePassing}
use Rattle.dyn_filter.proofs.hashed.HashedDomain.passing.Given as goal

abbrev pub invariant-loop-place : goal.invariant-loop-place
invariant-loop-place l = ArePassing (row_passes l.self l.column) l.page.rows l.place l.places.items
