-- The types of a node's rows, from its inputs up.
use Rattle.std.specs.Prelude.{ℕ, ◌-◌, List, [], slice_get, unwrap_or, Result, Ok}
use Rattle.json_paths.specs.declared.key.Key.TheVariants as key
use Rattle.sql_exprs.specs.Typing.{Path, typed_then, under}
use Rattle.plan_docs.specs.Nodes.{NodeForm, scan, values, remote, step, join, union}
use Rattle.plan_docs.specs.Operators.{OperatorForm, filter, project, sort, part, final}
use Rattle.plan_trees.specs.HalvedSteps as halved
use Rattle.plan_types.specs.declared.row_types.RowTypes.{RowTypes}
use Rattle.plan_types.specs.RowTypes.{plain, whole_of}
use Rattle.plan_types.specs.Operators.{aggregate_types, filter_types, join_types, project_types, sort_types, union_types, values_types}

-- the types of a fragment, where `later` has those of the fragments from `first` on
abbrev pub read_from : ℕ → List RowTypes → ℕ → RowTypes
read_from first later fragment = unwrap_or (slice_get later (fragment - first)) (plain [])

abbrev pub same_rows : RowTypes → Result RowTypes Path
same_rows input = Ok (plain input.columns)

-- a FINAL aggregate gives what its PARTIAL one would as a whole
abbrev pub final_rows : RowTypes → Result RowTypes Path
final_rows input = Ok (plain (whole_of input))

-- the types of what an operator makes of rows of these types
abbrev pub operator_types : Path → OperatorForm → RowTypes → Result RowTypes Path
operator_types path (filter predicate) input = filter_types path predicate input
operator_types path (project columns) input = project_types path columns input
operator_types path (sort keys) input = sort_types path keys input
operator_types path (part half (halved.aggregate keys calls)) input = aggregate_types path half keys calls input
operator_types path (part half (halved.topn count keys)) input = sort_types path keys input
operator_types path (part half (halved.limit count)) input = same_rows input
operator_types path (final halved.aggregates) input = final_rows input
operator_types path (final name) input = same_rows input

abbrev pub node_types : ℕ → List RowTypes → Path → NodeForm → Result RowTypes Path
node_types first later path (scan id table columns types) = Ok (plain types)
node_types first later path (values id types rows) = values_types path types rows
node_types first later path (remote id fragment) = Ok (read_from first later fragment)
node_types first later path (step id operator input) = typed_then (node_types first later (under path key.Input) input) (operator_types path operator)
node_types first later path (join id kind on filters left right) =
    typed_then (node_types first later (under path key.Left) left) (λ l. typed_then (node_types first later (under path key.Right) right) (join_types path on l))
node_types first later path (union id left right) =
    typed_then (node_types first later (under path key.Left) left) (λ l. typed_then (node_types first later (under path key.Right) right) (union_types path l))
