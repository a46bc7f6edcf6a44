-- The groups of the rows that came: a key and a partial row each.
use Rattle.std.specs.Prelude.{◌≡◌, ℕ, zero, suc, List, [], ◌∷◌, ◌++◌, length, All}
use Rattle.sql_values.specs.declared.types.SqlType.{SqlType}
use Rattle.sql_values.specs.declared.value.Value.{Value}
use Rattle.sql_values.specs.declared.relational.Call.{Call}
use Rattle.relation_laws.specs.Groups.{grouped_row}
use Rattle.relation_laws.specs.Partials.{merged, partial_of, results_from}
use Rattle.relation_laws.specs.Verdicts.{Verdict}
use Rattle.aggregation.specs.Alike.{AreApart}

-- what is made of each key and its partial row
abbrev pub of_each : {X : Type 0} → (List Value → List Value → X) → List (List Value) → List (List Value) → List X
of_each make [] partials = []
of_each make (key ∷ keys) [] = []
of_each make (key ∷ keys) (partial ∷ partials) = make key partial ∷ of_each make keys partials

-- the partial rows, each behind its key
abbrev pub held_rows : List (List Value) → List (List Value) → List (List Value)
held_rows keys partials = of_each (λ key partial. key ++ partial) keys partials

-- what is said of each group
abbrev pub group_verdicts : List SqlType → List Call → List (List Value) → List (List Value) → List Verdict
group_verdicts types calls keys partials = of_each (λ key partial. grouped_row key (results_from types calls partial)) keys partials

-- without key columns there is one group, also where no row came
abbrev pub first_keys : ℕ → List (List Value)
first_keys zero = [] ∷ []
first_keys (suc width) = []

abbrev pub first_partials : ℕ → List Call → List (List Value)
first_partials zero calls = partial_of calls [] ∷ []
first_partials (suc width) calls = []

-- the rows of no row
abbrev pub first_rows : ℕ → List Call → List (List Value)
first_rows width calls = held_rows (first_keys width) (first_partials width calls)

-- without key columns the one key is empty
abbrev pub HasFirst : ℕ → List (List Value) → Type 0
HasFirst zero keys = keys ≡ [] ∷ []
HasFirst (suc width) keys = Unit {0}

-- a partial row to which that of no row adds nothing
abbrev pub IsTold : List Call → List Value → Type 0
IsTold calls partial = merged calls partial (partial_of calls []) ≡ partial

-- keys of one width, each once, and a partial row for each
pub record AreHeld (width : ℕ) (calls : List Call) (keys partials : List (List Value)) : Type 0 where
  pub level : length partials ≡ length keys
  pub wide : All (λ key. length key ≡ width) keys
  pub apart : AreApart keys
  pub begun : HasFirst width keys
  pub told : All (IsTold calls) partials
