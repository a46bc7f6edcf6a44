-- Groups: the rows that are the same in the key columns, where NULL is the same as NULL.
use Rattle.std.specs.Prelude.{ℕ, List, [], ◌∷◌, ◌++◌, map, filter, Bool, not, Result, Ok, Err}
use Rattle.sql_values.specs.declared.types.SqlType.{SqlType}
use Rattle.sql_values.specs.declared.value.Value.{Value}
use Rattle.sql_values.specs.declared.fail.Fail.{Fail}
use Rattle.sql_values.specs.declared.relational.Call.{Call}
use Rattle.sql_values.specs.Cells.{cut}
use Rattle.relation_laws.specs.Equality.{same_row}
use Rattle.relation_laws.specs.Verdicts.{Verdict, keeps, fails}
use Rattle.relation_laws.specs.Aggregates.{aggregates_of}

-- each item once, where it first stands
abbrev pub distinct : {A : Type 0} → (A → A → Bool) → List A → List A
distinct same [] = []
distinct same (x ∷ xs) = x ∷ filter (λ y. not (same x y)) (distinct same xs)

-- the keys of the groups; without key columns one empty key, also where there is no row
abbrev pub keys_of : List ℕ → List (List Value) → List (List Value)
keys_of [] rows = [] ∷ []
keys_of (column ∷ columns) rows = distinct same_row (map (cut (column ∷ columns)) rows)

-- the rows whose key columns are the key
abbrev pub group_of : List ℕ → List (List Value) → List Value → List (List Value)
group_of columns rows key = filter (λ row. same_row key (cut columns row)) rows

-- a group's row: its key and its results
abbrev pub grouped_row : List Value → Result (List Value) Fail → Verdict
grouped_row key (Ok results) = keeps (key ++ results)
grouped_row key (Err kind) = fails kind

-- the row of each group, or its failure
abbrev pub groups_of : List SqlType → List ℕ → List Call → List (List Value) → List Verdict
groups_of types columns calls rows =
    map (λ key. grouped_row key (aggregates_of types calls (group_of columns rows key))) (keys_of columns rows)
