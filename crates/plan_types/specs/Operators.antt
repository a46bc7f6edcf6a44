-- The types of the rows of an operator over inputs of known types, or the place that does not fit.
use Rattle.std.specs.Prelude.{ℕ, ◌+◌, List, [], ◌∷◌, ◌++◌, length, slice_get, Bool, false, not, nat_le, nat_lt, if◌then◌else◌, Option, Some, Result, Ok, Err}
use Rattle.std.specs.Cmp.Lexicographic.{pointwise}
use Rattle.std.specs.List.{position_from}
use Rattle.sql_values.specs.declared.types.SqlType.{SqlType}
use Rattle.sql_values.specs.declared.value.Value.{Value}
use Rattle.sql_values.specs.declared.relational.Call.{Call}
use Rattle.sql_values.specs.declared.order.KeySpec.{KeySpec}
use Rattle.sql_functions.specs.CallTypes.{is_boolean, same_type}
use Rattle.json_paths.specs.declared.key.Key.TheVariants as key
use Rattle.sql_exprs.specs.Forms.{Form}
use Rattle.sql_exprs.specs.Typing.{Path, entry, form_type, typed_then, under}
use Rattle.plan_trees.specs.declared.tree.Pair.{Pair}
use Rattle.plan_docs.specs.declared.node.NodeStep.{NodeStep}
use Rattle.plan_types.specs.declared.row_types.RowTypes.{RowTypes}
use Rattle.plan_types.specs.RowTypes.{plain}
use Rattle.plan_types.specs.Faults.{entry_fault, or_fault}
use Rattle.plan_types.specs.Cells.{cell_fault, misfit_from}
use Rattle.plan_types.specs.Aggregates.{step_types, takes_not}

abbrev pub values_types : Path → List SqlType → List (List Value) → Result RowTypes Path
values_types path types rows = or_fault (cell_fault path (misfit_from types 0 rows)) (Ok (plain types))

abbrev pub boolean_rows : Path → List SqlType → SqlType → Result RowTypes Path
boolean_rows path columns kind = if is_boolean kind then Ok (plain columns) else Err path

abbrev pub filter_types : Path → Form → RowTypes → Result RowTypes Path
filter_types path predicate input =
    typed_then (form_type input.columns (under path key.Predicate) predicate) (boolean_rows (under path key.Predicate) input.columns)

-- the types of expressions from index i of a list on
abbrev pub column_types : List SqlType → Path → ℕ → List Form → Result (List SqlType) Path
column_types columns path i [] = Ok []
column_types columns path i (form ∷ forms) =
    typed_then (form_type columns (entry path i) form) (λ kind. typed_then (column_types columns path (i + 1) forms) (λ kinds. Ok (kind ∷ kinds)))

abbrev pub project_types : Path → List Form → RowTypes → Result RowTypes Path
project_types path columns input =
    typed_then (column_types input.columns (under path key.Columns) 0 columns) (λ types. Ok (plain types))

abbrev pub fits_found : Option SqlType → Option SqlType → Bool
fits_found (Some k) (Some l) = same_type k l
fits_found k l = false

-- there is no such column, or the two have not one type
abbrev pub is_unequal : List SqlType → List SqlType → Pair → Bool
is_unequal left right pair = not (fits_found (slice_get left pair.left) (slice_get right pair.right))

-- a row has at most 256 columns
abbrev pub join_types : Path → List Pair → RowTypes → RowTypes → Result RowTypes Path
join_types path on left right =
    if nat_lt 256 (length left.columns + length right.columns) then Err path
    else or_fault (entry_fault path key.On (position_from (is_unequal left.columns right.columns) 0 on)) (Ok (plain (left.columns ++ right.columns)))

abbrev pub aggregate_types : Path → NodeStep → List ℕ → List Call → RowTypes → Result RowTypes Path
aggregate_types path step keys calls input =
    or_fault (entry_fault path key.Keys (position_from (nat_le (length input.columns)) 0 keys))
    (or_fault (entry_fault path key.Calls (position_from (takes_not input.columns) 0 calls))
    (Ok (step_types step input.columns keys calls)))

abbrev pub is_key_beyond : ℕ → KeySpec → Bool
is_key_beyond width k = nat_le width k.column

-- of sort, and of a top n of any step but FINAL
abbrev pub sort_types : Path → List KeySpec → RowTypes → Result RowTypes Path
sort_types path keys input =
    or_fault (entry_fault path key.Keys (position_from (is_key_beyond (length input.columns)) 0 keys)) (Ok (plain input.columns))

abbrev pub union_types : Path → RowTypes → RowTypes → Result RowTypes Path
union_types path left right = if pointwise same_type left.columns right.columns then Ok (plain left.columns) else Err path
