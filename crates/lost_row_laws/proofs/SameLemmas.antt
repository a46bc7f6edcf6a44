-- Rows of tasks that are the same below their number; rows that were judged, and sent, with others behind them.
use Rattle.std.proofs.Common.{◌≡◌, ℕ, ◌<◌, List, [], ◌∷◌, ◌++◌, Bool, true, false, refl, ap, sym, ◌∙◌, arith, subst, map}
use Rattle.std.specs.Prelude.{◌==◌}
use Rattle.std.proofs.lemmas.List.{map-append}
use Rattle.std.proofs.lemmas.List.Concat.{flat_map-append}
use Rattle.sql_values.specs.declared.value.Value.{Value}
use Rattle.bag_laws.specs.Buckets.{Sits, key_bucket}
use Rattle.bag_laws.specs.Gather.{gather}
use Rattle.bag_laws.specs.Laws.{TaskRows}
use Rattle.bag_laws.specs.Weights.{SameWeights}
use Rattle.bag_laws.proofs.BagLemmas.{same-append, same-from_equal, same-refl, same-trans}
use Rattle.bag_laws.proofs.BucketLemmas.{sits-filter, sits-head, sits-tail}
use Rattle.bag_laws.proofs.GatherLemmas.{gather-agree, same-gather_append}
use Rattle.bag_laws.proofs.VerdictLemmas.{failures-append}
use Rattle.relation_laws.specs.Joins.{join_of}
use Rattle.relation_laws.specs.Verdicts.{Verdict, drops, fails, failures, is_failure, keeps, kept, kept_rows}
use Rattle.plan_trees.specs.Allowed.{Judged, Mode, StepGives, scanned, skipping, strict, width_of}
use Rattle.plan_trees.specs.TreeTypes.{types_of}
use Rattle.plan_run_laws.specs.RunPlans.{Output, RunPlan, tree_of_run, single, hashed, broadcast}
use Rattle.plan_run_laws.specs.RunPlans as plan
use Rattle.plan_run_laws.specs.Runs.{EdgePassed, Ran, sent}
use Rattle.plan_run_laws.specs.Stages.{Makes, second_half}
use Rattle.plan_run_laws.proofs.ExtendLemmas.{same-sent, sent-append}

-- no row passes a test that none can
pub sits_none : {X : Type 0} (test : X → Bool) → ((x : X) → test x ≡ false) → (xs : List X) → Sits test xs → xs ≡ []
sits_none test none [] s = refl
sits_none test none (x ∷ xs) s = absurd (true_not_false (test x) (sits-head test x xs s) (none x))
  where
    true_not_false : (b : Bool) → b ≡ true → b ≡ false → ⊥
    true_not_false true g h = cc
    true_not_false false g h = cc

each_same : (n : ℕ) (P : ℕ → List (List Value) → Type 0) (out other : TaskRows) → ((k : ℕ) → k < n → out k ≡ other k)
    → ((k : ℕ) → k < n → P k (out k)) → (k : ℕ) → k < n → P k (other k)
each_same n P out other same each k lt = subst (P k) (same k lt) (each k lt)

module _ (mode : Mode) (tables : List (List (List Value))) where
  pub ran_same : (n : ℕ) (p : RunPlan) (out other : TaskRows) → ((k : ℕ) → k < n → out k ≡ other k) → Ran mode tables n p out → Ran mode tables n p other
  ran_same n (plan.scan id table columns types) out other same ran =
      subst (λ (rows : List (List Value)). SameWeights rows (scanned tables table columns)) (gather-agree n out other same) ran
  ran_same n (plan.values id types rows) out other same ran = each_same n (λ k given. SameWeights given rows) out other same ran
  ran_same n (plan.remote id output m input) out other same (ins, ran, passed) =
      (ins, ran, each_same n (λ k given. SameWeights (sent output n k (gather m ins)) given) out other same passed)
  ran_same n (plan.step id s input) out other same (ins, ran, gives) =
      (ins, ran, each_same n (λ k given. StepGives mode (types_of (tree_of_run input)) s (ins k) given) out other same gives)
  ran_same n (plan.halves id source output m h input) out other same (ins, parts, got, ran, pieces, passed, makes) =
      (ins, parts, got, ran, pieces, passed, each_same n (λ k given. Makes mode (second_half (types_of (tree_of_run input)) h) (got k) given) out other same makes)
  ran_same n (plan.join id kind on left right) out other same (ls, rs, ran, also, joined) = (
    ls,
    rs,
    ran,
    also,
    each_same n
        (λ k given. SameWeights (join_of kind on (width_of (tree_of_run left)) (width_of (tree_of_run right)) (ls k) (rs k)) given) out other same joined,
  )
  ran_same n (plan.union id left right) out other same (ls, rs, ran, also, put) =
      (ls, rs, ran, also, each_same n (λ k given. SameWeights (ls k ++ rs k) given) out other same put)

alone_calm : (v : Verdict) → is_failure v ≡ false → failures (v ∷ []) ≡ 0
alone_calm (keeps row) h = refl
alone_calm drops h = refl
alone_calm (fails kind) h = absurd cc

-- where no row may fail, this one does not
abbrev pub IsQuiet : Mode → Verdict → Type 0
IsQuiet strict v = is_failure v ≡ false
IsQuiet skipping v = Unit {0}

module _ (judge : List Value → Verdict) (test : List Value → Bool) where
  none_fails : ((row : List Value) → test row ≡ true → is_failure (judge row) ≡ false) → (rows : List (List Value)) → Sits test rows → failures (map judge rows) ≡ 0
  none_fails quiet [] s = refl
  none_fails quiet (row ∷ rows) s =
      omega (
        arith,
        failures-append (judge row ∷ []) (map judge rows),
        alone_calm (judge row) (quiet row (sits-head test row rows s)),
        none_fails quiet rows (sits-tail test row rows s),
      )

  -- rows that were judged, with some behind them on which the judge is quiet
  pub judged_more : (mode : Mode) → ((row : List Value) → test row ≡ true → IsQuiet mode (judge row)) → (rows out lost : List (List Value)) → Sits test lost
      → Judged mode judge rows out → Judged mode judge (rows ++ lost) (out ++ kept_rows judge lost)
  judged_more strict quiet rows out lost s j = record {
    calm = ap failures (map-append judge rows lost) ∙ omega (arith, failures-append (map judge rows) (map judge lost), j.calm, none_fails quiet lost s);
    are_kept = ap (λ (given : List (List Value)). given ++ kept_rows judge lost) j.are_kept ∙ sym (flat_map-append (λ row. kept (judge row)) rows lost);
  }
  judged_more skipping quiet rows out lost s j = record {
    calm = tt;
    are_kept = ap (λ (given : List (List Value)). given ++ kept_rows judge lost) j.are_kept ∙ sym (flat_map-append (λ row. kept (judge row)) rows lost);
  }

-- rows that are sent with others behind them
pub passed_more : (output : Output) (m n : ℕ) (ins lost out : TaskRows) → EdgePassed output m n ins out
    → EdgePassed output m n (λ j. ins j ++ lost j) (λ k. out k ++ sent output n k (gather m lost))
passed_more output m n ins lost out passed k lt =
    same-trans (same-sent output n k (same-gather_append m ins lost))
    (same-trans (same-from_equal (sent-append output n k (gather m ins) (gather m lost)))
    (same-append (passed k lt) (same-refl (sent output n k (gather m lost)))))

pub sent_sits : (test : List Value → Bool) (output : Output) (n k : ℕ) (rows : List (List Value)) → Sits test rows → Sits test (sent output n k rows)
sent_sits test single n k rows s = s
sent_sits test (hashed columns) n k rows s = sits-filter test (λ row. key_bucket n columns row == k) rows s
sent_sits test broadcast n k rows s = s
