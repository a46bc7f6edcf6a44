-- A group as its accumulator keeps it.
use Rattle.std.specs.Global.{Vec}
use Rattle.std.specs.Prelude.{◌≡◌, ℕ, ◌^◌, ◌≤◌, List, [], ◌∷◌, length, map, All, Result, Ok, Err, MatchResult}
use Rattle.sql_values.specs.declared.types.SqlType.{SqlType}
use Rattle.sql_values.specs.declared.value.Value.{Value}
use Rattle.sql_values.specs.declared.fail.Fail.{Fail}
use Rattle.sql_values.specs.declared.fail.EvalFault.{EvalFault}
use Rattle.sql_values.specs.declared.fail.EvalFault.TheVariants as fault
use Rattle.sql_values.specs.declared.relational.Call.{Call}
use Rattle.relation_laws.specs.Aggregates.{all_values, most_group_rows}
use Rattle.relation_laws.specs.Partials.{merged, partial_of, with_rows}
use Rattle.accumulators.specs.Columns.{kind_in}
use Rattle.accumulators.specs.Kept.{Kept, all_columns, calls_of, kinds_of, outcome_in}
use Rattle.accumulators.specs.Limits.{IsKept}

-- the calls with the types of what they add, and the partial row
pub record Group : Type 0 where
  pub calls : List Call
  pub kinds : List SqlType
  pub partial : List Value

-- the group of calls over rows of these types, of which it has none
abbrev pub empty_group : List SqlType → List Call → Group
empty_group types calls = record { calls = calls; kinds = map (kind_in types) calls; partial = partial_of calls [] }

-- the group with the rows of a partial row, too
abbrev pub with_part : Group → List Value → Group
with_part group part = record { calls = group.calls; kinds = group.kinds; partial = merged group.calls group.partial part }

-- the group with one more row
abbrev pub with_row : Group → List Value → Group
with_row group row = with_part group (partial_of group.calls (row ∷ []))

-- the group's partial row is that of these rows
abbrev pub HasTaken : Group → List (List Value) → Type 0
HasTaken group rows = group.partial ≡ partial_of group.calls rows

-- what is kept of so many rows, as a group
abbrev pub group_kept : ℕ → List Kept → Group
group_kept rows kept = record {
  calls = calls_of kept;
  kinds = kinds_of kept;
  partial = with_rows (calls_of kept) rows (all_columns kept);
}

pub record IsGroup (rows : ℕ) (kept : List Kept) : Type 0 where
  pub few : rows ≤ 2 ^ 63
  pub few_calls : length kept ≤ 2 ^ 20
  pub all_kept : rows ≤ most_group_rows → All (IsKept rows) kept

-- the fault names this failure, or memory was wanting
abbrev pub RowFailsBy : Result (List Value) Fail → EvalFault → Type 0
RowFailsBy outcome (fault.Fail kind) = outcome ≡ Err kind
RowFailsBy outcome fault.Memory = Unit {0}

-- the answer is the outcome; memory may have been wanting
abbrev pub Answers : Result (List Value) Fail → Result (List Value) EvalFault → Type 0
Answers outcome result = MatchResult result (λ row. outcome ≡ Ok row) (RowFailsBy outcome)

-- the results of so many rows
abbrev pub all_outcomes : ℕ → List Kept → Result (List Value) Fail
all_outcomes rows kept = all_values (map (outcome_in rows) kept)

-- the same of values in a vector
abbrev pub AllAnswer : Result (List Value) Fail → Result (Vec Value) EvalFault → Type 0
AllAnswer outcome result = MatchResult result (λ values. outcome ≡ Ok values.items) (RowFailsBy outcome)
