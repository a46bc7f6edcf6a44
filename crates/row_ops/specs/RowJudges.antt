-- What a predicate, where there is one, and then columns say of a row, and of which pages they can.
use Rattle.std.specs.Prelude.{◌≡◌, ◌<◌, List, [], ◌∷◌, map, length, Bool, true, false, ◌&&◌, is_ok, Option, Some, None}
use Rattle.std.specs.List.{range_with_len}
use Rattle.sql_values.specs.declared.types.SqlType.{SqlType}
use Rattle.sql_values.specs.declared.value.Value.{Value}
use Rattle.col_pages.specs.Pages.{TypedPage}
use Rattle.sql_exprs.specs.Forms.{Form, column}
use Rattle.sql_exprs.specs.Meaning.{kind_of}
use Rattle.sql_exprs.specs.Typing.{form_type}
use Rattle.relation_laws.specs.Verdicts.{Verdict, keeps, drops, fails}
use Rattle.plan_trees.specs.Judges.{filter_judge, project_judge}
use Rattle.page_processor.specs.Typed.{AllTyped, IsTyped}

-- a verdict, and for a row that is kept the next one
abbrev pub and_then : Verdict → (List Value → Verdict) → Verdict
and_then (keeps row) next = next row
and_then drops next = drops
and_then (fails kind) next = fails kind

-- what the predicate, where there is one, and then the columns say of a row
abbrev pub row_judge : List SqlType → Option Form → List Form → List Value → Verdict
row_judge types None columns row = project_judge types columns row
row_judge types (Some predicate) columns row = and_then (filter_judge types predicate row) (project_judge types columns)

-- each column of rows of these types, in order
abbrev pub columns_in : List SqlType → List Form
columns_in types = map column (range_with_len 0 (length types))

-- the types of the columns
abbrev pub kinds_of_forms : List SqlType → List Form → List SqlType
kinds_of_forms types columns = map (kind_of types) columns

abbrev pub IsTypedIf : List SqlType → Option Form → Type 0
IsTypedIf types None = Unit {0}
IsTypedIf types (Some predicate) = IsTyped types predicate

abbrev pub is_typed : List SqlType → Form → Bool
is_typed types form = is_ok (form_type types [] form)

abbrev pub is_typed_if : List SqlType → Option Form → Bool
is_typed_if types None = true
is_typed_if types (Some predicate) = is_typed types predicate

abbrev pub are_all_typed : List SqlType → List Form → Bool
are_all_typed types [] = true
are_all_typed types (form ∷ forms) = is_typed types form && are_all_typed types forms

-- whether there are columns, and each expression is typed over input of these types
abbrev pub are_typed : List SqlType → Option Form → List Form → Bool
are_typed types predicate [] = false
are_typed types predicate (form ∷ forms) = is_typed_if types predicate && are_all_typed types (form ∷ forms)

-- there are columns, and each expression is typed over input of these types
pub record AreTyped (types : List SqlType) (predicate : Option Form) (columns : List Form) : Type 0 where
  pub some : 0 < length columns
  pub typed_if : IsTypedIf types predicate
  pub all_typed : AllTyped types columns
