-- Pipes that stand so and lost a row: of a scan of FALSE and TRUE under a join whose right side has TRUE alone, FALSE is
-- lost.
use Rattle.std.proofs.Common.{◌≡◌, ℕ, List, [], ◌∷◌, Bool, true, false, Some, refl, arith}
use Rattle.std.specs.Prelude.{length, nat_lt, not, ◌&&◌, ◌||◌, if◌then◌else◌}
use Rattle.sql_values.specs.declared.types.SqlType.{SqlType}
use Rattle.sql_values.specs.declared.types.SqlType.TheVariants as type
use Rattle.sql_values.specs.declared.value.Value.TheVariants as value
use Rattle.sql_values.specs.declared.relational.JoinKind.TheVariants.{Inner}
use Rattle.sql_values.specs.Cells.{cell}
use Rattle.col_pages.specs.Fits.{AllFit}
use Rattle.operator_core.specs.declared.operator.Operator.{Ghosts}
use Rattle.operator_core.specs.Rows.{Row}
use Rattle.bag_laws.proofs.BagLemmas.{same-from_equal}
use Rattle.bag_laws.proofs.BucketLemmas.{sits-nil}
use Rattle.relation_laws.specs.Equality.{is_present, same_value}
use Rattle.plan_trees.specs.Allowed.{strict}
use Rattle.plan_run_laws.specs.RunPlans.{RunPlan, join, scan}
use Rattle.plan_run_laws.specs.Spreads.{Tables}
use Rattle.pipe_laws.specs.Pipes.{PipeState}
use Rattle.lost_row_laws.specs.Runs.{AreAlone}
use Rattle.lost_row_laws.specs.Sieves.{Sieve, is_lost}
use Rattle.sieve_laws.specs.LosingPipes.{StandsLosing}
use Rattle.sieve_laws.proofs.DropLemmas.{all_fitting}

abbrev row : Bool → Row
row b = value.Boolean b ∷ []

abbrev types : List SqlType
types = type.Boolean ∷ []

abbrev on : List (ℕ × ℕ)
on = (0, 0) ∷ []

abbrev tables : Tables
tables = (row false ∷ row true ∷ []) ∷ (row true ∷ []) ∷ []

abbrev plan : RunPlan
plan = join 1 Inner on (scan 2 0 (0 ∷ []) types) (scan 3 1 (0 ∷ []) types)

-- what is not TRUE is held back
abbrev own : List Sieve
own = record { column = 0; pass = λ v. same_value v (value.Boolean true) } ∷ []

no_partner : (same present here : Bool) → (here && not same) || false ≡ true → (if (present && true && same) && true then row true ∷ [] else []) ≡ []
no_partner true present true h = absurd cc
no_partner true present false h = absurd cc
no_partner false true here h = refl
no_partner false false here h = refl

alone : AreAlone on (row true ∷ []) own
alone a h = no_partner (same_value (cell a 0) (value.Boolean true)) (is_present (cell a 0)) (nat_lt 0 (length a)) h

-- one driver each, over TRUE
abbrev pipes : {S : Type 0} → ℕ → PipeState S
pipes at = record {
  tasks = 1;
  drivers = 1;
  notes = λ k d. [];
  stages = λ k d. [];
  took = λ k d. row true ∷ [];
  gave = λ k d. row true ∷ [];
  ended = λ k d. true;
  done = λ k d. true;
}

fit : AllFit types (row true ∷ [])
fit = all_fitting types (row true ∷ []) (record { none_fails = refl })

stands : {S : Type 0} (g : Ghosts S) → StandsLosing g pipes (λ id. own) tables [] 0 1 plan (λ k d. Some (row true ∷ []) ∷ [])
stands g = (
  1,
  record { tasks = refl; lanes = λ k d lt less. record { given = types; operate = (refl, refl); noted = refl; turns = tt; linked = refl; fit = fit; done_is = refl } },
  (
    λ k d. [],
    record { left = []; some = record { weighs = λ h. omega arith }; all = λ over. refl; closed = λ over. tt },
    λ k d lt less. sits-nil (is_lost strict [] types),
  ),
  λ k d lt less built is. (λ e in_lane. refl, (let same : row true ∷ [] ≡ built = cc is in same-from_equal same)),
  λ a held. (λ k d lt less. refl, alone a held),
  λ k d lt less. fit,
  (
    λ k d. row false ∷ [],
    record { left = []; some = record { weighs = λ h. omega arith }; all = λ over. refl; closed = λ over. tt },
    λ k d lt less. record { none_fails = refl },
  ),
)
