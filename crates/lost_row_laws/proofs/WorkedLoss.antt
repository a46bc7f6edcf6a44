-- A run that meets the premises and loses a row: of a scan of FALSE and TRUE under a join whose right side has TRUE
-- alone, FALSE is lost.
use Rattle.std.proofs.Common.{◌≡◌, ℕ, List, [], ◌∷◌, Bool, true, false, refl, arith}
use Rattle.std.specs.Prelude.{length, nat_lt, not, ◌&&◌, ◌||◌, if◌then◌else◌}
use Rattle.sql_values.specs.declared.types.SqlType.{SqlType}
use Rattle.sql_values.specs.declared.types.SqlType.TheVariants as type
use Rattle.sql_values.specs.declared.value.Value.{Value}
use Rattle.sql_values.specs.declared.value.Value.TheVariants as value
use Rattle.sql_values.specs.declared.relational.JoinKind.TheVariants.{Inner}
use Rattle.sql_values.specs.Cells.{cell}
use Rattle.bag_laws.specs.Laws.{TaskRows}
use Rattle.bag_laws.proofs.BagLemmas.{same-refl}
use Rattle.bag_laws.proofs.BucketLemmas.{sits-nil}
use Rattle.relation_laws.specs.Equality.{is_present, same_value}
use Rattle.plan_trees.specs.Allowed.{strict}
use Rattle.plan_run_laws.specs.RunPlans.{RunPlan, join, scan}
use Rattle.plan_run_laws.specs.Runs.{Ran}
use Rattle.plan_run_laws.specs.Spreads.{Tables}
use Rattle.lost_row_laws.specs.Runs.{AreAlone, RanLosing}
use Rattle.lost_row_laws.specs.Sieves.{Sieve, is_lost}
use Rattle.lost_row_laws.proofs.RestoreLemmas.{put_back}

abbrev row : Bool → List Value
row b = value.Boolean b ∷ []

abbrev types : List SqlType
types = type.Boolean ∷ []

abbrev on : List (ℕ × ℕ)
on = (0, 0) ∷ []

abbrev tables : Tables
tables = (row false ∷ row true ∷ []) ∷ (row true ∷ []) ∷ []

abbrev plan : RunPlan
plan = join 1 Inner on (scan 2 0 (0 ∷ []) types) (scan 3 1 (0 ∷ []) types)

-- what is not TRUE is held back
abbrev own : List Sieve
own = record { column = 0; pass = λ v. same_value v (value.Boolean true) } ∷ []

abbrev in_one_task : List (List Value) → TaskRows
in_one_task rows k = rows

no_partner : (same present here : Bool) → (here && not same) || false ≡ true → (if (present && true && same) && true then row true ∷ [] else []) ≡ []
no_partner true present true h = absurd cc
no_partner true present false h = absurd cc
no_partner false true here h = refl
no_partner false false here h = refl

alone : AreAlone on (row true ∷ []) own
alone a h = no_partner (same_value (cell a 0) (value.Boolean true)) (is_present (cell a 0)) (nat_lt 0 (length a)) h

ran : RanLosing strict tables [] 1 plan (in_one_task ((value.Boolean true ∷ value.Boolean true ∷ []) ∷ []))
ran = (
  own,
  in_one_task (row true ∷ []),
  in_one_task (row true ∷ []),
  (in_one_task (row false ∷ []), record { weighs = λ h. omega arith }, λ k lt. record { none_fails = refl }),
  (in_one_task [], same-refl (row true ∷ []), λ k lt. sits-nil (is_lost strict [] types)),
  alone,
  λ k lt. record { none_fails = refl },
  λ k lt. same-refl ((value.Boolean true ∷ value.Boolean true ∷ []) ∷ []),
)

-- so it is a run of all rows
all_rows : Ran strict tables 1 plan (in_one_task ((value.Boolean true ∷ value.Boolean true ∷ []) ∷ []))
all_rows = put_back strict tables 1 plan (tt, tt) (in_one_task ((value.Boolean true ∷ value.Boolean true ∷ []) ∷ [])) ran
