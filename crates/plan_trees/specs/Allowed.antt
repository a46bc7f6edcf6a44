-- The lists of rows that a tree allows over the rows of the tables. Nothing is said of where, or in
-- which pieces, an operator runs.
use Rattle.std.specs.Prelude.{ℕ, List, [], ◌++◌, length, map, slice_get, unwrap_or}
use Rattle.sql_values.specs.declared.value.Value.{Value}
use Rattle.sql_values.specs.Bags.{SameBag}
use Rattle.sql_values.specs.Cells.{cut}
use Rattle.relation_laws.specs.Joins.{join_of}
use Rattle.plan_trees.specs.TreeForms.{TreeForm, scan, values, remote, step, join, union}
use Rattle.plan_trees.specs.TreeTypes.{types_of}
pub use Rattle.plan_trees.specs.Modes.{IsCalm, Judged, Mode, Taken, skipping, strict}
pub use Rattle.plan_trees.specs.Steps.{StepGives}

-- the rows of a table: none where there is no such table
abbrev pub table_rows : List (List (List Value)) → ℕ → List (List Value)
table_rows tables table = unwrap_or (slice_get tables table) []

abbrev pub scanned : List (List (List Value)) → ℕ → List ℕ → List (List Value)
scanned tables table columns = map (cut columns) (table_rows tables table)

abbrev pub width_of : TreeForm → ℕ
width_of tree = length (types_of tree)

-- the tree gives the rows, in the mode
abbrev pub Gives : Mode → TreeForm → List (List (List Value)) → List (List Value) → Type 0
Gives mode (scan id table columns types) tables rows = SameBag (scanned tables table columns) rows
Gives mode (values id types constants) tables rows = SameBag constants rows
Gives mode (remote id input) tables rows = (A : List (List Value)) × Gives mode input tables A × SameBag A rows
Gives mode (step id s input) tables rows =
    (A : List (List Value)) × Gives mode input tables A × StepGives mode (types_of input) s A rows
Gives mode (join id kind on left right) tables rows =
    (A : List (List Value)) × (B : List (List Value)) × Gives mode left tables A × Gives mode right tables B
    × SameBag (join_of kind on (width_of left) (width_of right) A B) rows
Gives mode (union id left right) tables rows =
    (A : List (List Value)) × (B : List (List Value)) × Gives mode left tables A × Gives mode right tables B × SameBag (A ++ B) rows

abbrev pub Allows : TreeForm → List (List (List Value)) → List (List Value) → Type 0
Allows = Gives strict

-- the same, with the rows and groups that fail left out
abbrev pub AllowsSkipping : TreeForm → List (List (List Value)) → List (List Value) → Type 0
AllowsSkipping = Gives skipping
