use Rattle.std.proofs.Common.{◌≡◌, drop}
use Rattle.std.specs.List.{position_from}
use Rattle.plan_trees.specs.TreeForms.{tree_view}
use Rattle.plan_reader.specs.Filters.{is_misdirected}
use Rattle.plan_reader.proofs.filters.first_misdirected.Given as goal

abbrev pub invariant-loop-i : goal.invariant-loop-i
invariant-loop-i l = position_from (is_misdirected l.kind l.on (tree_view l.left)) 0 l.filters ≡ position_from (is_misdirected l.kind l.on (tree_view l.left)) l.i (drop l.i l.filters)
