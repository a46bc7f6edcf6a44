-- How many columns trees have.
use Rattle.std.specs.Prelude.{◌≡◌, length}
use Rattle.relation_laws.specs.Widths.{HaveWidth}
use Rattle.plan_trees.specs.TreeForms.{TreeForm, scan, values, remote, step, join, union}
use Rattle.plan_trees.specs.Allowed.{width_of}

-- a scan has a type for each column, constant rows have a value for each type, and both sides of a
-- union have as many columns
abbrev pub FitsWidths : TreeForm → Type 0
FitsWidths (scan id table columns types) = length columns ≡ length types
FitsWidths (values id types constants) = HaveWidth (length types) constants
FitsWidths (remote id input) = FitsWidths input
FitsWidths (step id s input) = FitsWidths input
FitsWidths (join id kind on left right) = FitsWidths left × FitsWidths right
FitsWidths (union id left right) = FitsWidths left × FitsWidths right × (width_of left ≡ width_of right)
