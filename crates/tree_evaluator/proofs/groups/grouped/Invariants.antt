use Rattle.std.proofs.Common.{◌≡◌, length}
use Rattle.relation_laws.specs.Groups.{groups_of}
use Rattle.aggregation.specs.Giving.{verdicts_with}
use Rattle.tree_evaluator.proofs.groups.grouped.Given as goal

-- with the rows that are left the table speaks of all
abbrev pub invariant-loop-page : goal.invariant-loop-page
invariant-loop-page l = verdicts_with l.table l.rows.rows ≡ groups_of l.fn.rows.types l.fn.keys l.fn.calls l.fn.rows.rows

abbrev pub decreases-loop-page : goal.decreases-loop-page
decreases-loop-page l = length l.rows.rows
