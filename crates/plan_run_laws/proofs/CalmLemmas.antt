-- That nothing fails, task by task and of all tasks; verdicts taken, task by task and of all.
use Rattle.std.proofs.Common.{ℕ, ◌<◌, List, sym, ◌∙◌, map}
use Rattle.std.specs.Prelude.{flat_map}
use Rattle.sql_values.specs.declared.value.Value.{Value}
use Rattle.relation_laws.specs.Verdicts.{Verdict, kept}
use Rattle.bag_laws.specs.Gather.{gather}
use Rattle.bag_laws.specs.Laws.{TaskRows}
use Rattle.bag_laws.specs.Weights.{SameWeights}
use Rattle.bag_laws.proofs.BagLemmas.{bag_from_same, same-from_equal, same-map, same-sym, same-trans, same_from_bag}
use Rattle.bag_laws.proofs.GatherLemmas.{gather-flat_map, gather-map, same-gather}
use Rattle.bag_laws.proofs.VerdictLemmas.{failures-gather_none, same-failures, same-kept}
use Rattle.plan_trees.specs.Allowed.{IsCalm, Mode, Taken, skipping, strict}

pub calm-gather : (mode : Mode) (n : ℕ) (lists : ℕ → List Verdict) → ((k : ℕ) → k < n → IsCalm mode (lists k)) → IsCalm mode (gather n lists)
calm-gather strict n lists each = failures-gather_none n lists each
calm-gather skipping n lists each = tt

pub calm-same : (mode : Mode) (A B : List Verdict) → SameWeights A B → IsCalm mode A → IsCalm mode B
calm-same strict A B s calm = sym (same-failures s) ∙ calm
calm-same skipping A B s calm = tt

-- a judge calm on each task's rows is calm on all
pub calm-tasks : (mode : Mode) (judge : List Value → Verdict) (n : ℕ) (lists : TaskRows) (rows : List (List Value))
    → ((k : ℕ) → k < n → IsCalm mode (map judge (lists k))) → SameWeights (gather n lists) rows → IsCalm mode (map judge rows)
calm-tasks mode judge n lists rows each s =
    calm-same mode (gather n (λ k. map judge (lists k))) (map judge rows)
    (same-trans (same-from_equal (sym (gather-map n judge lists))) (same-map judge s))
    (calm-gather mode n (λ k. map judge (lists k)) each)

pub taken-same : (mode : Mode) (V W : List Verdict) (rows : List (List Value)) → SameWeights V W → Taken mode V rows → Taken mode W rows
taken-same mode V W rows s t = record {
  calm = calm-same mode V W s t.calm;
  are_kept = bag_from_same (flat_map kept W) rows (same-trans (same-sym (same-kept s)) (same_from_bag (flat_map kept V) rows t.are_kept));
}

-- the verdicts of all tasks
module _ (mode : Mode) (n : ℕ) (verdicts : ℕ → List Verdict) (out : TaskRows) (taken : (k : ℕ) → k < n → Taken mode (verdicts k) (out k))
    (W : List Verdict) (s : SameWeights (gather n verdicts) W) where
  pub calm-taken : IsCalm mode W
  calm-taken = calm-same mode (gather n verdicts) W s (calm-gather mode n verdicts (λ k lt. (taken k lt).calm))

  pub same-taken : SameWeights (gather n out) (flat_map kept W)
  same-taken =
      same-trans
      (same-gather n out (λ k. flat_map kept (verdicts k)) (λ k lt. same-sym (same_from_bag (flat_map kept (verdicts k)) (out k) ((taken k lt).are_kept))))
      (same-trans (same-from_equal (sym (gather-flat_map n kept verdicts))) (same-kept s))
