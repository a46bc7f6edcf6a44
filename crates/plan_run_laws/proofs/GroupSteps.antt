-- The steps of aggregates: over whole groups, and by partial rows.
use Rattle.std.proofs.Common.{ℕ, ◌+◌, ◌<◌, zero, suc, List, [], ◌∷◌, arith, length}
use Rattle.std.specs.Prelude.{flat_map, sum_by, ◌==◌}
use Rattle.std.proofs.lemmas.Bool.{eqb-true, le-leb}
use Rattle.std.proofs.lemmas.List.Sorted.{IsPermutation-refl}
use Rattle.sql_values.specs.declared.value.Value.{Value}
use Rattle.sql_values.specs.declared.relational.Call.{Call}
use Rattle.relation_laws.specs.Groups.{groups_of}
use Rattle.relation_laws.specs.Partials.{call_width}
use Rattle.relation_laws.specs.Verdicts.{Verdict, kept}
use Rattle.bag_laws.specs.Buckets.{AllBelow, Sits, SitByBucket, at_places, key_bucket}
use Rattle.bag_laws.specs.Gather.{gather}
use Rattle.bag_laws.specs.Laws.{TaskRows}
use Rattle.bag_laws.specs.Pieces.{finals_of, partials_of}
use Rattle.bag_laws.specs.Weights.{SameWeights}
use Rattle.bag_laws.proofs.BagLemmas.{same-refl, same-trans, same_from_bag}
use Rattle.bag_laws.proofs.BucketLemmas.{sits-filter, sits-same, sits-weaker}
use Rattle.bag_laws.proofs.GatherLemmas.{same-gather}
use Rattle.bag_laws.proofs.GroupLemmas.{same-groups_of}
use Rattle.bag_laws.proofs.LawLemmas.{finals-by_columns, groups-by_columns}
use Rattle.bag_laws.proofs.PieceLemmas.{same-finals_of, wide}
use Rattle.bag_laws.proofs.SpreadLemmas.{partials_of-width, reaches, sit-finals_of, sit-groups_of}
use Rattle.plan_trees.specs.TreeForms.{TreeForm, aggregate, remote}
use Rattle.plan_trees.specs.TreeTypes.{types_of}
use Rattle.plan_trees.specs.Allowed.{Mode, Taken}
use Rattle.plan_run_laws.specs.RunPlans.{hashed}
use Rattle.plan_run_laws.specs.Runs.{AllInPieces, ArePartialsOf, InPieces, EdgePassed}
use Rattle.plan_run_laws.specs.Spreads.{Says, Together, by}
use Rattle.plan_run_laws.proofs.CalmLemmas.{calm-taken, same-taken}
use Rattle.plan_run_laws.proofs.EdgeSteps.{same-passed, sit-passed}
use Rattle.plan_run_laws.proofs.PieceLemmas.{pieces-gather}
use Rattle.plan_run_laws.proofs.ReadLemmas.{given_remote, sits-gather}
use Rattle.plan_run_laws.proofs.StepTables.{merged_groups, pieces-same}

module _ (mode : Mode) (tables : List (List (List Value))) (id : ℕ) (calls : List Call) (t : TreeForm) (ins out : TaskRows) where
  -- the rows that the groups of all tasks give
  given_together : (keys : List ℕ) (n : ℕ) (verdicts : ℕ → List Verdict) → ((k : ℕ) → k < n → Taken mode (verdicts k) (out k))
      → (m : ℕ) (lists : TaskRows) (below : Together mode t tables m lists) → SameWeights (gather n verdicts) (groups_of (types_of t) keys calls below.rows)
      → Together mode (aggregate id keys calls t) tables n out
  given_together keys n verdicts taken m lists below s =
      let groups = groups_of (types_of t) keys calls below.rows in
      record {
        rows = flat_map kept groups;
        given = (below.rows, below.given, record { calm = calm-taken mode n verdicts out taken groups s; are_kept = IsPermutation-refl (flat_map kept groups) });
        same = same-taken mode n verdicts out taken groups s;
      }

  -- what sits by bucket of what the groups keep
  sit_taken : (n : ℕ) (columns : List ℕ) (verdicts : ℕ → List Verdict) → ((k : ℕ) → k < n → Taken mode (verdicts k) (out k))
      → SitByBucket (key_bucket n columns) n (λ k. flat_map kept (verdicts k)) → SitByBucket (key_bucket n columns) n out
  sit_taken n columns verdicts taken sits k lt =
      sits-same (λ row. key_bucket n columns row == k) (same_from_bag (flat_map kept (verdicts k)) (out k) ((taken k lt).are_kept)) (sits k lt)

  sit_groups : (n : ℕ) (keys places : List ℕ) → 0 < length keys → AllBelow (length keys) places
      → SitByBucket (key_bucket n (at_places keys places)) n ins
      → SitByBucket (key_bucket n places) n (λ k. flat_map kept (groups_of (types_of t) keys calls (ins k)))
  sit_groups n [] places some below sits = absurd (omega (arith, some))
  sit_groups n (key ∷ keys) places some below sits = sit-groups_of (types_of t) key keys calls n places below ins sits

  pub aggregate_by_step : (n : ℕ) (keys places : List ℕ) → 0 < n → 0 < length keys → AllBelow (length keys) places
      → Says (by (at_places keys places)) mode t tables n ins
      → ((k : ℕ) → k < n → Taken mode (groups_of (types_of t) keys calls (ins k)) (out k))
      → Says (by places) mode (aggregate id keys calls t) tables n out
  aggregate_by_step n keys places lt some among below taken =
      let verdicts : ℕ → List Verdict = λ k. groups_of (types_of t) keys calls (ins k) in (
        given_together keys n verdicts taken n ins below.0
            (same-trans (groups-by_columns (types_of t) keys calls places n some lt among ins below.1) (same-groups_of (types_of t) calls keys below.0.same)),
        sit_taken n places verdicts taken (sit_groups n keys places some among below.1),
      )

-- over an edge from the tasks that made partial rows, to tasks by the bucket of keys
module _ (mode : Mode) (tables : List (List (List Value))) (id source m : ℕ) (keys : List ℕ) (calls : List Call) (t : TreeForm) (ins parts got out : TaskRows)
    (below : Together mode t tables m ins) (each : AllInPieces (ArePartialsOf keys calls) m ins parts) where
  remote_below : Together mode (remote source t) tables m ins
  remote_below = record { rows = below.rows; given = given_remote mode t tables source below.rows below.given; same = below.same }

  -- the partial rows reach behind their keys, also when they have passed
  width : ℕ
  width = length keys + suc (sum_by call_width calls)

  parts_reach : Sits (reaches (length keys)) (gather m parts)
  unfolding width
  parts_reach =
      let all : InPieces (ArePartialsOf keys calls) (gather m ins) (gather m parts) = pieces-gather (ArePartialsOf keys calls) m ins parts each in
      sits-same (reaches (length keys)) (same-trans (same-gather all.drivers (λ d. partials_of keys calls (all.pieces d)) all.gave all.each) all.together)
      (sits-gather (reaches (length keys)) all.drivers (λ d. partials_of keys calls (all.pieces d))
      (λ d lt. sits-weaker (wide width) (reaches (length keys))
      (λ row e. le-leb (length keys) (length row) (omega (arith, eqb-true (length row) width e)))
      (partials_of keys calls (all.pieces d)) (partials_of-width keys calls (all.pieces d))))

  module _ (n : ℕ) (columns : List ℕ) (passed : EdgePassed (hashed columns) m n parts got) where
    got_reach : (k : ℕ) → k < n → Sits (reaches (length keys)) (got k)
    got_reach k lt =
        sits-same (reaches (length keys)) (passed k lt)
        (sits-filter (reaches (length keys)) (λ row. key_bucket n columns row == k) (gather m parts) parts_reach)

  sit_finals : (n : ℕ) (columns : List ℕ) (width : ℕ) → 0 < width → AllBelow width columns
      → ((k : ℕ) → k < n → Sits (reaches width) (got k)) → SitByBucket (key_bucket n columns) n got
      → SitByBucket (key_bucket n columns) n (λ k. flat_map kept (finals_of (types_of t) width calls (got k)))
  sit_finals n columns zero some among reach sits = absurd (omega (arith, some))
  sit_finals n columns (suc w) some among reach sits = sit-finals_of (types_of t) w calls n columns among got reach sits

  -- what all tasks find, each in its bucket
  pub same_finals : (n : ℕ) (columns : List ℕ) → 0 < n → 0 < length keys → AllBelow (length keys) columns → EdgePassed (hashed columns) m n parts got
      → SameWeights (gather n (λ k. finals_of (types_of t) (length keys) calls (got k))) (groups_of (types_of t) keys calls below.rows)
  same_finals n columns lt some among passed =
      same-trans (finals-by_columns (types_of t) (length keys) calls columns n some lt among got (sit-passed n m columns parts got passed))
      (same-trans (same-finals_of (types_of t) calls (length keys) (same-passed n m columns parts got lt passed))
      (merged_groups (types_of t) keys calls below.rows (gather m parts)
      (pieces-same (ArePartialsOf keys calls) (pieces-gather (ArePartialsOf keys calls) m ins parts each) below.same (same-refl (gather m parts)))))

  pub final_by_step : (n : ℕ) (columns : List ℕ) → 0 < n → 0 < length keys → AllBelow (length keys) columns → EdgePassed (hashed columns) m n parts got
      → ((k : ℕ) → k < n → Taken mode (finals_of (types_of t) (length keys) calls (got k)) (out k))
      → Says (by columns) mode (aggregate id keys calls (remote source t)) tables n out
  unfolding remote_below
  final_by_step n columns lt some among passed taken =
      let verdicts : ℕ → List Verdict = λ k. finals_of (types_of t) (length keys) calls (got k) in
      let sits : SitByBucket (key_bucket n columns) n got = sit-passed n m columns parts got passed in (
        given_together mode tables id calls (remote source t) ins out keys n verdicts taken m ins remote_below
            (same_finals n columns lt some among passed),
        sit_taken mode tables id calls t ins out n columns verdicts taken (sit_finals n columns (length keys) some among (got_reach n columns passed) sits),
      )
