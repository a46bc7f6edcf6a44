-- What an operator means that makes groups of its rows.
use Rattle.std.proofs.Common.{◌≡◌, ℕ, zero, suc, List, [], ◌∷◌, ◌++◌, map, refl, ap, sym, arith, length}
use Rattle.std.specs.Prelude.{Contains, Err, IfOk, IsTrue, Ok, Result, flat_map}
use Rattle.std.proofs.lemmas.List.Sorted.{All-permutation}
use Rattle.sql_values.specs.ColumnRows.{fits_row}
use Rattle.sql_values.specs.declared.types.SqlType.{SqlType}
use Rattle.sql_values.specs.declared.fail.Fail.{Fail}
use Rattle.sql_values.specs.declared.relational.Call.{Call}
use Rattle.sql_functions.specs.CallTypes.{type_at}
use Rattle.relation_laws.specs.Groups.{groups_of}
use Rattle.relation_laws.specs.Verdicts.{Verdict, drops, failures, fails, keeps, kept}
use Rattle.col_pages.specs.Fits.{AllFit}
use Rattle.operator_core.specs.declared.operator.Operator.{Ghosts}
use Rattle.operator_core.specs.Rows.{Row}
use Rattle.plan_trees.specs.Allowed.{Mode, Taken, skipping, strict}
use Rattle.plan_trees.specs.TreeTypes.{call_kind}
use Rattle.plan_run_laws.specs.Faults.{FailsOnGroupOf}
use Rattle.plan_run_laws.specs.Stages.{Makes, Stage, final, grouping, partial}
use Rattle.plan_run_laws.proofs.GoOnLemmas.{goes_on-one}
use Rattle.accumulators.specs.Limits.{are_allowed}
use Rattle.plan_trees.specs.Layouts.{layout_types}
use Rattle.aggregation.proofs.FitLemmas.{groups-fit}
use Rattle.aggregation.proofs.PartFitLemmas.{finals-fit, partials-fit}
use Rattle.bag_laws.specs.Pieces.{finals_of, partials_of}
use Rattle.bag_laws.proofs.BagLemmas.{bag_from_same}
use Rattle.stage_meanings.specs.Pipelines.{FailsOn, at_node}
use Rattle.stage_meanings.specs.Meanings.{Means}
use Rattle.stage_meanings.specs.GroupMeanings.{GivesGroups}
use Rattle.stage_meanings.specs.RowMeanings.{MakesRows}
use Rattle.stage_meanings.proofs.OrderLemmas.{GivesTypes, made_rows-mean}

-- none of the verdicts is a failure
none-failed : (verdicts : List Verdict) → ((kind : Fail) → Contains verdicts (fails kind) → ⊥) → failures verdicts ≡ 0
none-failed [] none = refl
none-failed (keeps row ∷ verdicts) none = none-failed verdicts (λ kind c. none kind (suc c.0, omega (arith, c.1), c.2))
none-failed (drops ∷ verdicts) none = none-failed verdicts (λ kind c. none kind (suc c.0, omega (arith, c.1), c.2))
none-failed (fails kind ∷ verdicts) none = absurd (none kind (zero, omega arith, refl))

-- the stage makes the rows of these groups, which fit the types
pub record MakesGroups (stage : Stage) (taken given : List SqlType) (groups : List Row → List Verdict) : Type 0 where
  pub makes : (mode : Mode) (X Y : List Row) → Taken mode (groups X) Y → Makes mode stage X Y
  pub fails : (kind : Fail) (X : List Row) → FailsOnGroupOf groups kind X → FailsOn stage kind X
  pub fit : (X : List Row) → AllFit taken X → AllFit given (flat_map kept (groups X))

pub groups_mean : {S : Type 0} (g : Ghosts S) (m : S) (own : ℕ) (taken given : List SqlType) (stage : Stage) (groups : List Row → List Verdict)
    → MakesGroups stage taken given groups → GivesGroups g m own groups → Means g m taken (at_node own stage ∷ []) given
groups_mean g m own taken given stage groups makes gives = record {
  fits = λ X Y fit give. All-permutation (λ row. IsTrue (fits_row given row)) (flat_map kept (groups X)) Y (gives.gives X Y give) (makes.fit X fit);
  makes = λ X Y fit give none.
      (Y, makes.makes strict X Y (record { calm = none-failed (groups X) (λ kind c. none own kind ((gives.fails X own kind).1 (refl, c))); are_kept = gives.gives X Y give }), refl);
  goes_on = λ X Y ended done fit can. goes_on-one stage X Y ended done (λ more may.
      let c = can.could more may in (c.0, makes.makes skipping (X ++ more) (Y ++ c.0) (record { calm = tt; are_kept = gives.gives (X ++ more) (Y ++ c.0) c.1 }), c.2));
  fails = λ X ended node kind fit fails. record {
    before = [];
    stage = stage;
    after = [];
    at = ap (λ (n : ℕ). at_node n stage ∷ []) (sym ((gives.fails (X ++ []) node kind).0 (fails [] (λ e. refl))).0);
    came = X;
    told = ended;
    goes_on = λ more may. record { rest = more; chain = refl; none = may };
    fails = λ more may. makes.fails kind (X ++ more) ((gives.fails (X ++ more) node kind).0 (fails more may)).1;
  };
}

pub groupings_are_made : (types : List SqlType) (keys : List ℕ) (calls : List Call) → IsTrue (are_allowed types calls)
    → MakesGroups (grouping types keys calls) types (map (type_at types) keys ++ map (call_kind types) calls) (groups_of types keys calls)
groupings_are_made types keys calls allowed = record {
  makes = λ mode X Y taken. taken;
  fails = λ kind X f. f;
  fit = λ X fit. groups-fit types keys calls X allowed fit;
}

pub groupings-mean : {S : Type 0} (g : Ghosts S) (m : S) (own : ℕ) (types : List SqlType) (keys : List ℕ) (calls : List Call) → IsTrue (are_allowed types calls)
    → GivesGroups g m own (groups_of types keys calls) → Means g m types (at_node own (grouping types keys calls) ∷ []) (map (type_at types) keys ++ map (call_kind types) calls)
groupings-mean g m own types keys calls allowed gives =
    groups_mean g m own types (map (type_at types) keys ++ map (call_kind types) calls) (grouping types keys calls) (groups_of types keys calls) (groupings_are_made types keys calls allowed) gives

pub finals_are_made : (kinds types : List SqlType) (calls : List Call) → IsTrue (are_allowed types calls)
    → MakesGroups (final types (length kinds) calls) (layout_types kinds types calls) (kinds ++ map (call_kind types) calls) (finals_of types (length kinds) calls)
finals_are_made kinds types calls allowed = record {
  makes = λ mode X Y taken. taken;
  fails = λ kind X f. f;
  fit = λ X fit. finals-fit kinds types calls X allowed fit;
}

pub finals-mean : {S : Type 0} (g : Ghosts S) (m : S) (own : ℕ) (kinds types : List SqlType) (calls : List Call) → IsTrue (are_allowed types calls)
    → GivesGroups g m own (finals_of types (length kinds) calls)
    → Means g m (layout_types kinds types calls) (at_node own (final types (length kinds) calls) ∷ []) (kinds ++ map (call_kind types) calls)
finals-mean g m own kinds types calls allowed gives =
    groups_mean g m own (layout_types kinds types calls) (kinds ++ map (call_kind types) calls) (final types (length kinds) calls) (finals_of types (length kinds) calls)
    (finals_are_made kinds types calls allowed) gives

-- partial rows are given in any order
pub partials_give : (types : List SqlType) (keys : List ℕ) (calls : List Call) → GivesTypes (partial keys calls) types (layout_types (map (type_at types) keys) types calls)
partials_give types keys calls X Y fit same =
    let given = layout_types (map (type_at types) keys) types calls in
    All-permutation (λ row. IsTrue (fits_row given row)) (partials_of keys calls X) Y (bag_from_same (partials_of keys calls X) Y same) (partials-fit types keys calls X fit)

pub partials-mean : {S : Type 0} (g : Ghosts S) (m : S) (own : ℕ) (types : List SqlType) (keys : List ℕ) (calls : List Call) → MakesRows g m (partial keys calls)
    → Means g m types (at_node own (partial keys calls) ∷ []) (layout_types (map (type_at types) keys) types calls)
partials-mean g m own types keys calls makes =
    made_rows-mean g m own types (layout_types (map (type_at types) keys) types calls) (partial keys calls) (partials_give types keys calls) makes

-- clauses of what was made, together
pub if_made : {A E : Type 0} {P Q : A → Type 0} (r : Result A E) → ((a : A) → P a → Q a) → IfOk r P → IfOk r Q
if_made (Ok a) so p = so a p
if_made (Err e) so p = tt

pub if_both : {A E : Type 0} {P Q R : A → Type 0} (r : Result A E) → ((a : A) → P a → Q a → R a) → IfOk r P → IfOk r Q → IfOk r R
if_both (Ok a) so p q = so a p q
if_both (Err e) so p q = tt

pub if_all : {A E : Type 0} {P Q R T : A → Type 0} (r : Result A E) → ((a : A) → P a → Q a → R a → T a) → IfOk r P → IfOk r Q → IfOk r R → IfOk r T
if_all (Ok a) so p q s = so a p q s
if_all (Err e) so p q s = tt
