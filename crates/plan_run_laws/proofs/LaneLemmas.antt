-- Lists of stages taken apart behind their last one, and the drivers of a task put together.
use Rattle.std.proofs.Common.{◌≡◌, ℕ, ◌<◌, List, [], ◌∷◌, ◌++◌, ap, refl, subst, sym, ◌∙◌, arith}
use Rattle.sql_values.specs.declared.value.Value.{Value}
use Rattle.sql_values.specs.declared.relational.JoinKind.{JoinKind}
use Rattle.relation_laws.specs.Joins.{join_of}
use Rattle.relation_laws.specs.Verdicts.{Verdict, kept_rows}
use Rattle.bag_laws.specs.Gather.{gather}
use Rattle.bag_laws.specs.Laws.{TaskRows}
use Rattle.bag_laws.specs.Weights.{SameWeights}
use Rattle.bag_laws.proofs.BagLemmas.{same-from_equal, same-refl, same-trans}
use Rattle.bag_laws.proofs.GatherLemmas.{chosen, gather-agree, same-gather}
use Rattle.bag_laws.proofs.JoinLemmas.{join-gather_left, same-join}
use Rattle.bag_laws.proofs.VerdictLemmas.{kept_rows-gather}
use Rattle.plan_trees.specs.Allowed.{Judged, Mode}
use Rattle.plan_run_laws.specs.Nets.{AreFor, EndsWith, Lanes}
use Rattle.plan_run_laws.specs.Stages.{StagesMake, Makes, Stage}
use Rattle.plan_run_laws.specs.RunPlans.{RunPlan}
use Rattle.plan_run_laws.proofs.CalmLemmas.{calm-tasks}

-- rows for each lane, as a function of the lane
pub chosen_lanes : (P : ℕ → ℕ → List (List Value) → Type 0) (n w : ℕ) → ((k d : ℕ) → k < n → d < w → (rows : List (List Value)) × P k d rows)
    → (lanes : Lanes) × ((k d : ℕ) → k < n → d < w → P k d (lanes k d))
chosen_lanes P n w each =
    let all = chosen (λ k (f : TaskRows). (d : ℕ) → d < w → P k d (f d)) (λ d. []) n (λ k lt. chosen (P k) [] w (λ d less. each k d lt less)) in
    (all.0, λ k d lt less. all.1 k lt d less)

-- a stage alone
pub only_stage : (mode : Mode) (stage : Stage) (stages : List Stage) (took gave : List (List Value)) → stages ≡ stage ∷ [] → StagesMake mode stages took gave → Makes mode stage took gave
only_stage mode stage stages took gave is chain =
    let c : StagesMake mode (stage ∷ []) took gave = subst (λ ss. StagesMake mode ss took gave) is chain in
    subst (Makes mode stage took) c.2 c.1

pub no_stage : (mode : Mode) (stages : List Stage) (took gave : List (List Value)) → stages ≡ [] → StagesMake mode stages took gave → took ≡ gave
no_stage mode stages took gave is chain = subst (λ ss. StagesMake mode ss took gave) is chain

-- the rows before the last stage
chain-snoc : (mode : Mode) (rest : List Stage) (stage : Stage) (took gave : List (List Value)) → StagesMake mode (rest ++ stage ∷ []) took gave
    → (between : List (List Value)) × StagesMake mode rest took between × Makes mode stage between gave
chain-snoc mode [] stage took gave (between, makes, is) = (took, refl, subst (Makes mode stage took) is makes)
chain-snoc mode (first ∷ rest) stage took gave (next, makes, chain) =
    let c = chain-snoc mode rest stage next gave chain in
    (c.0, (next, makes, c.1), c.2)

-- what a driver did that has stages for the node
abbrev pub Lane : Mode → RunPlan → List TaskRows → ℕ → List (List Value) → List (List Value) → Type 0
Lane mode node builds k took gave = (stages : List Stage) × AreFor node builds k stages × StagesMake mode stages took gave

pub before_last : (mode : Mode) (input : RunPlan) (builds : List TaskRows) (k : ℕ) (stage : Stage) (stages : List Stage) (took gave : List (List Value))
    → EndsWith (AreFor input builds k) stage stages → StagesMake mode stages took gave
    → (between : List (List Value)) × Lane mode input builds k took between × Makes mode stage between gave
before_last mode input builds k stage stages took gave (rest, is, are) chain =
    let c = chain-snoc mode rest stage took gave (subst (λ ss. StagesMake mode ss took gave) is chain) in
    (c.0, (rest, are, c.1), c.2)

-- a driver that is alone
pub alone : (R : List (List Value) → List (List Value) → Type 0) (w : ℕ) → w ≡ 1 → (f g : TaskRows) → R (f 0) (g 0) → R (gather w f) (gather w g)
alone R w one f g h =
    let first : gather w f ≡ f 0 = ap (λ (j : ℕ). gather j f) one in
    let last : gather w g ≡ g 0 = ap (λ (j : ℕ). gather j g) one in
    subst (λ rows. R rows (gather w g)) (sym first) (subst (R (f 0)) (sym last) h)

pub of_driver : (P : List (List Value) → Type 0) (w : ℕ) → w ≡ 1 → (f : TaskRows) (d : ℕ) → d < w → P (f d) → P (gather w f)
of_driver P w one f d lt h =
    let first : d ≡ 0 = omega (arith, lt, one) in
    subst P (ap f first ∙ sym (ap (λ (j : ℕ). gather j f) one)) h

pub judged_drivers : (mode : Mode) (judge : List Value → Verdict) (w : ℕ) (f g : TaskRows) → ((d : ℕ) → d < w → Judged mode judge (f d) (g d))
    → Judged mode judge (gather w f) (gather w g)
judged_drivers mode judge w f g each = record {
  calm = calm-tasks mode judge w f (gather w f) (λ d lt. (each d lt).calm) (same-refl (gather w f));
  are_kept = gather-agree w g (λ d. kept_rows judge (f d)) (λ d lt. (each d lt).are_kept) ∙ sym (kept_rows-gather judge w f);
}

pub joined_drivers : (kind : JoinKind) (on : List (ℕ × ℕ)) (l r w : ℕ) (f g : TaskRows) (build right : List (List Value)) → SameWeights right build
    → ((d : ℕ) → d < w → SameWeights (join_of kind on l r (f d) build) (g d)) → SameWeights (join_of kind on l r (gather w f) right) (gather w g)
joined_drivers kind on l r w f g build right s each =
    same-trans (same-join kind on l r (same-refl (gather w f)) s)
    (same-trans (same-from_equal (sym (join-gather_left kind on l r w f build))) (same-gather w (λ d. join_of kind on l r (f d) build) g each))
