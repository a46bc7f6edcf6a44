-- The types of the columns of a tree's rows.
use Rattle.std.specs.Prelude.{List, ◌++◌}
use Rattle.sql_values.specs.declared.types.SqlType.{SqlType}
use Rattle.plan_trees.specs.TreeForms.{TreeForm, scan, values, remote, step, join, union}
pub use Rattle.plan_trees.specs.CallKinds.{call_kind, sum_kind}
pub use Rattle.plan_trees.specs.Steps.{types_after}

abbrev pub types_of : TreeForm → List SqlType
types_of (scan id table columns types) = types
types_of (values id types rows) = types
types_of (remote id input) = types_of input
types_of (step id s input) = types_after s (types_of input)
types_of (join id kind on left right) = types_of left ++ types_of right
types_of (union id left right) = types_of left
