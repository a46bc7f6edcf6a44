-- Groups by pieces: the partial rows of each piece, and what is made of the partial rows of all.
use Rattle.std.specs.Prelude.{ℕ, zero, suc, List, [], ◌∷◌, ◌++◌, map, filter, take, drop}
use Rattle.sql_values.specs.declared.types.SqlType.{SqlType}
use Rattle.sql_values.specs.declared.value.Value.{Value}
use Rattle.sql_values.specs.declared.relational.Call.{Call}
use Rattle.relation_laws.specs.Equality.{same_row}
use Rattle.relation_laws.specs.Groups.{distinct, group_of, grouped_row, keys_of}
use Rattle.relation_laws.specs.Partials.{merged, partial_of, results_from}
use Rattle.relation_laws.specs.Verdicts.{Verdict}

-- a row of each group: its key, then its partial row
abbrev pub partials_of : List ℕ → List Call → List (List Value) → List (List Value)
partials_of columns calls rows = map (λ key. key ++ partial_of calls (group_of columns rows key)) (keys_of columns rows)

-- one partial row in place of some; of none, that of no row
abbrev pub all_merged : List Call → List (List Value) → List Value
all_merged calls [] = partial_of calls []
all_merged calls (partial ∷ partials) = merged calls partial (all_merged calls partials)

-- the keys at the front of rows; without key columns one empty key
abbrev pub front_keys : ℕ → List (List Value) → List (List Value)
front_keys zero rows = [] ∷ []
front_keys (suc width) rows = distinct same_row (map (take (suc width)) rows)

-- the partial rows that stand behind a key
abbrev pub behind_key : ℕ → List (List Value) → List Value → List (List Value)
behind_key width rows key = map (drop width) (filter (λ row. same_row key (take width row)) rows)

-- the row of each group, or its failure, from rows that begin with a key of so many columns
abbrev pub finals_of : List SqlType → ℕ → List Call → List (List Value) → List Verdict
finals_of types width calls rows =
    map (λ key. grouped_row key (results_from types calls (all_merged calls (behind_key width rows key)))) (front_keys width rows)
