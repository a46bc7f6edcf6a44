-- Partial rows behind their keys, and when some give the same groups as others.
use Rattle.std.specs.Prelude.{◌≡◌, ℕ, List, [], ◌∷◌, ◌++◌, drop, length, map, take, All, false}
use Rattle.sql_values.specs.declared.value.Value.{Value}
use Rattle.sql_values.specs.declared.relational.Call.{Call}
use Rattle.sql_values.specs.Cells.{cut}
use Rattle.relation_laws.specs.Equality.{same_row}
use Rattle.relation_laws.specs.Groups.{distinct}
use Rattle.relation_laws.specs.Partials.{partial_of}
use Rattle.bag_laws.specs.Pieces.{all_merged, behind_key, front_keys}

-- the partial row of a row by itself, behind its key
abbrev pub part_row : List ℕ → List Call → List Value → List Value
part_row columns calls row = cut columns row ++ partial_of calls (row ∷ [])

-- and of each row
abbrev pub part_rows : List ℕ → List Call → List (List Value) → List (List Value)
part_rows columns calls rows = map (part_row columns calls) rows

-- the key of a row that has a partial row behind as many columns, and then that
abbrev pub held_row : List ℕ → List Value → List Value
held_row columns row = cut columns row ++ drop (length columns) row

-- for each key of so many columns in front of rows: the key, and the partial rows behind it as one
abbrev pub merged_rows : ℕ → List Call → List (List Value) → List (List Value)
merged_rows width calls rows = map (λ key. key ++ all_merged calls (behind_key width rows key)) (front_keys width rows)

-- rows that begin with the same keys, and give the same partial row of each
pub record TellAlike (width : ℕ) (calls : List Call) (rows others : List (List Value)) : Type 0 where
  pub keys : distinct same_row (map (take width) rows) ≡ distinct same_row (map (take width) others)
  pub merged : (key : List Value) → all_merged calls (behind_key width rows key) ≡ all_merged calls (behind_key width others key)

-- no key stands twice
abbrev pub AreApart : List (List Value) → Type 0
AreApart [] = Unit {0}
AreApart (key ∷ keys) = All (λ other. same_row key other ≡ false) keys × AreApart keys
