use Rattle.column_exprs.specs.Choices.{ArePlaces}
use Rattle.column_exprs.proofs.choice.found_places.Given as goal

abbrev pub invariant-loop-position : goal.invariant-loop-position
invariant-loop-position l = ArePlaces l.settled l.positions l.position-index l.found.items
