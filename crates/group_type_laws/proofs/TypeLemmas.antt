-- Values and rows of some types: their cells and cuts, and rows put together.
use Rattle.std.proofs.Common.{◌≡◌, ℕ, zero, suc, List, [], ◌∷◌, ◌++◌, length, map, replicate, refl, arith}
use Rattle.std.specs.Prelude.{IsTrue}
use Rattle.std.proofs.lemmas.Bool.{and_from, and_parts}
use Rattle.sql_values.specs.declared.types.SqlType.{SqlType}
use Rattle.sql_values.specs.declared.value.Value.{Value}
use Rattle.sql_values.specs.declared.value.Value.TheVariants.{Null}
use Rattle.sql_values.specs.Cells.{cell, cut}
use Rattle.sql_values.specs.Types.{has_type, row_has_types}
use Rattle.sql_functions.specs.CallTypes.{type_at}

-- a value of a type, and a row of some types
abbrev pub IsOf : SqlType → Value → Type 0
IsOf kind v = IsTrue (has_type kind v)

abbrev pub AreOf : List SqlType → List Value → Type 0
AreOf types row = IsTrue (row_has_types types row)

pub null-is_of : (kind : SqlType) → IsOf kind Null
null-is_of kind = refl

-- a column that the types do not have is seen as one of booleans, whose cells are NULL
pub cell-is_of : (types : List SqlType) (row : List Value) (column : ℕ) → AreOf types row → IsOf (type_at types column) (cell row column)
cell-is_of [] [] zero h = refl
cell-is_of [] [] (suc column) h = refl
cell-is_of [] (v ∷ row) column h = cc
cell-is_of (kind ∷ types) [] column h = cc
cell-is_of (kind ∷ types) (v ∷ row) zero h = (and_parts (has_type kind v) (row_has_types types row) h).0
cell-is_of (kind ∷ types) (v ∷ row) (suc column) h = cell-is_of types row column (and_parts (has_type kind v) (row_has_types types row) h).1

pub next-are_of : (kind : SqlType) (kinds : List SqlType) (v : Value) (row : List Value) → IsOf kind v → AreOf kinds row → AreOf (kind ∷ kinds) (v ∷ row)
next-are_of kind kinds v row h k = and_from (has_type kind v) (row_has_types kinds row) h k

pub cut-are_of : (types : List SqlType) (columns : List ℕ) (row : List Value) → AreOf types row → AreOf (map (type_at types) columns) (cut columns row)
cut-are_of types [] row h = refl
cut-are_of types (column ∷ columns) row h =
    next-are_of (type_at types column) (map (type_at types) columns) (cell row column) (cut columns row) (cell-is_of types row column h) (cut-are_of types columns row h)

pub append-are_of : (kinds types : List SqlType) (row more : List Value) → AreOf kinds row → AreOf types more → AreOf (kinds ++ types) (row ++ more)
append-are_of [] types [] more h k = k
append-are_of [] types (v ∷ row) more h k = cc
append-are_of (kind ∷ kinds) types [] more h k = cc
append-are_of (kind ∷ kinds) types (v ∷ row) more h k =
    let parts = and_parts (has_type kind v) (row_has_types kinds row) h in
    next-are_of kind (kinds ++ types) v (row ++ more) parts.0 (append-are_of kinds types row more parts.1 k)

pub nulls-are_of : (kinds : List SqlType) → AreOf kinds (replicate (length kinds) Null)
nulls-are_of [] = refl
nulls-are_of (kind ∷ kinds) = next-are_of kind kinds Null (replicate (length kinds) Null) (null-is_of kind) (nulls-are_of kinds)

pub width-are_of : (kinds : List SqlType) (row : List Value) → AreOf kinds row → length row ≡ length kinds
width-are_of [] [] h = refl
width-are_of [] (v ∷ row) h = cc
width-are_of (kind ∷ kinds) [] h = cc
width-are_of (kind ∷ kinds) (v ∷ row) h = omega (arith, width-are_of kinds row (and_parts (has_type kind v) (row_has_types kinds row) h).1)
