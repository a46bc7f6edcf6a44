-- Drivers, each with its list of stages, give at each node what the tasks gave there.
use Rattle.std.proofs.Common.{◌≡◌, ℕ, ◌<◌, List, [], ◌∷◌, sym, arith}
use Rattle.sql_values.specs.declared.value.Value.{Value}
use Rattle.sql_values.specs.declared.relational.JoinKind.{JoinKind}
use Rattle.relation_laws.specs.Joins.{join_of}
use Rattle.bag_laws.specs.Laws.{TaskRows}
use Rattle.bag_laws.specs.Weights.{SameWeights}
use Rattle.bag_laws.proofs.BagLemmas.{same-from_equal, same-refl, same-trans}
use Rattle.bag_laws.proofs.GatherLemmas.{gather-agree}
use Rattle.bag_laws.proofs.JoinLemmas.{same-join}
use Rattle.plan_trees.specs.Allowed.{Mode, width_of}
use Rattle.plan_trees.specs.TreeTypes.{types_of}
use Rattle.plan_run_laws.specs.Nets.{AreFor, Below, EndsWith, Lanes, Went, WentInto, of_tasks}
use Rattle.plan_run_laws.specs.Stages.{Makes, Stage, StagesMake, does, first_half, probe, second_half}
use Rattle.plan_run_laws.specs.RunPlans.{RunPlan, tree_of_run}
use Rattle.plan_run_laws.specs.RunPlans as plan
use Rattle.plan_run_laws.specs.Runs.{AllInPieces, Ran}
use Rattle.plan_run_laws.proofs.StepTables.{step_drivers}
use Rattle.plan_run_laws.proofs.LaneLemmas.{Lane, alone, before_last, chosen_lanes, joined_drivers, no_stage, only_stage}

module _ (mode : Mode) (tables : List (List (List Value))) where
  -- drivers that have no stage give what they take
  pub passed_on : (n w : ℕ) (took gave : Lanes) → ((k d : ℕ) → k < n → d < w → (stages : List Stage) × (stages ≡ []) × StagesMake mode stages (took k d) (gave k d))
      → (k : ℕ) → k < n → of_tasks w took k ≡ of_tasks w gave k
  passed_on n w took gave went k lt =
      gather-agree w (took k) (gave k) (λ d less. let h = went k d lt less in no_stage mode h.0 (took k d) (gave k d) h.1 h.2)

  -- drivers whose stages end with one that is the same for all drivers of a task
  last_stage : (n w : ℕ) (input : RunPlan) (builds : List TaskRows) (stage : ℕ → Stage) (took gave : Lanes)
      → ((k d : ℕ) → k < n → d < w → (between : List (List Value)) × Lane mode input builds k (took k d) between × Makes mode (stage k) between (gave k d))
      → (between : Lanes) × Went mode n w input builds took between × ((k d : ℕ) → k < n → d < w → Makes mode (stage k) (between k d) (gave k d))
  last_stage n w input builds stage took gave each =
      let all = chosen_lanes (λ k d rows. Lane mode input builds k (took k d) rows × Makes mode (stage k) rows (gave k d)) n w
      (λ k d lt less. let h = each k d lt less in (h.0, (h.1, h.2))) in
      (all.0, λ k d lt less. (all.1 k d lt less).0, λ k d lt less. (all.1 k d lt less).1)

  pub into_last : (n w : ℕ) (input : RunPlan) (builds : List TaskRows) (stage : Stage) (took gave : Lanes)
      → ((k d : ℕ) → k < n → d < w → (stages : List Stage) × EndsWith (AreFor input builds k) stage stages × StagesMake mode stages (took k d) (gave k d))
      → WentInto stage mode n w input builds took gave
  into_last n w input builds stage took gave went =
      last_stage n w input builds (λ k. stage) took gave
      (λ k d lt less. let h = went k d lt less in before_last mode input builds k stage h.0 (took k d) (gave k d) h.1 h.2)

  -- a task's drivers cut its rows into pieces
  pub in_pieces : (Gave : List (List Value) → List (List Value) → Type 0) (m v : ℕ) (between gave : Lanes)
      → ((k d : ℕ) → k < m → d < v → Gave (between k d) (gave k d)) → AllInPieces Gave m (of_tasks v between) (of_tasks v gave)
  in_pieces Gave m v between gave each j lt = record {
    drivers = v;
    pieces = between j;
    gave = gave j;
    cut = same-refl (of_tasks v between j);
    each = λ d less. each j d lt less;
    together = same-refl (of_tasks v gave j);
  }

  -- the only stage of each driver
  pub only_stages : (n w : ℕ) (stage : Stage) (took gave : Lanes)
      → ((k d : ℕ) → k < n → d < w → (stages : List Stage) × (stages ≡ stage ∷ []) × StagesMake mode stages (took k d) (gave k d))
      → (k d : ℕ) → k < n → d < w → Makes mode stage (took k d) (gave k d)
  only_stages n w stage took gave went k d lt less = let h = went k d lt less in only_stage mode stage h.0 (took k d) (gave k d) h.1 h.2

  -- a probe, with the rows that its task built in any order
  pub probed : (n w : ℕ) (kind : JoinKind) (on : List (ℕ × ℕ)) (left right : RunPlan) (build : TaskRows) (builds : List TaskRows) (took gave : Lanes)
      → Went mode n w (plan.join 0 kind on left right) (build ∷ builds) took gave
      → (between : Lanes) × Went mode n w left builds took between
      × ((k d : ℕ) → k < n → d < w → SameWeights (join_of kind on (width_of (tree_of_run left)) (width_of (tree_of_run right)) (between k d) (build k)) (gave k d))
  probed n w kind on left right build builds took gave went =
      let l = width_of (tree_of_run left) in
      let r = width_of (tree_of_run right) in
      last_stage n w left builds (λ k. probe kind on l r (build k)) took gave
      (λ k d lt less.
      let h = went k d lt less in
      let b = before_last mode left builds k (probe kind on l r h.1.0) h.0 (took k d) (gave k d) h.1.2 h.2 in
      (b.0, b.1, same-trans (same-join kind on l r (same-refl b.0) h.1.1) b.2))

  pub wired : (n w : ℕ) (node : RunPlan) (builds : List TaskRows) (took gave : Lanes) → Below mode tables n w node builds took → Went mode n w node builds took gave
      → Ran mode tables n node (of_tasks w gave)
  wired n w (plan.scan id table columns types) builds took gave below went =
      same-trans (same-from_equal (sym (gather-agree n (of_tasks w took) (of_tasks w gave) (passed_on n w took gave went)))) below
  wired n w (plan.values id types rows) builds took gave below went =
      λ k lt. same-trans (same-from_equal (sym (passed_on n w took gave went k lt))) (below k lt)
  wired n w (plan.remote id output m input) builds took gave (p, below, under, passed) went =
      (of_tasks p.drivers p.gave, wired m p.drivers input p.builds p.took p.gave below under, λ k lt. same-trans (passed k lt) (same-from_equal (passed_on n w took gave went k lt)))
  wired n w (plan.step id s input) builds took gave (some, below) went =
      let types = types_of (tree_of_run input) in
      let b = into_last n w input builds (does types s) took gave went in
      (of_tasks w b.0, wired n w input builds took b.0 below b.1, λ k lt. step_drivers mode types s w some (b.0 k) (gave k) (λ d less. b.2 k d lt less))
  wired n w (plan.halves id source output m h input) builds took gave (p, one, below, (between, under, makes), passed) went =
      let types = types_of (tree_of_run input) in (
        of_tasks p.drivers between,
        of_tasks p.drivers p.gave,
        of_tasks w took,
        wired m p.drivers input p.builds p.took between below under,
        in_pieces (Makes mode (first_half types h)) m p.drivers between p.gave makes,
        passed,
        λ k lt. alone (Makes mode (second_half types h)) w one (took k) (gave k)
            (only_stages n w (second_half types h) took gave went k 0 lt (omega (arith, one))),
      )
  wired n w (plan.join id kind on left right) [] took gave none went = absurd none
  wired n w (plan.join id kind on left right) (build ∷ builds) took gave (p, under, made, fed, below) went =
      let b = probed n w kind on left right build builds took gave went in (
        of_tasks w b.0,
        of_tasks p.drivers p.gave,
        wired n w left builds took b.0 below b.1,
        wired n p.drivers right p.builds p.took p.gave under made,
        λ k lt. joined_drivers kind on (width_of (tree_of_run left)) (width_of (tree_of_run right)) w (b.0 k) (gave k) (build k)
            (of_tasks p.drivers p.gave k) (fed k lt)
            (λ d less. b.2 k d lt less),
      )
  wired n w (plan.union id left right) builds took gave (p, q, below, went_left, under, went_right, put) went = (
    of_tasks p.drivers p.gave,
    of_tasks q.drivers q.gave,
    wired n p.drivers left p.builds p.took p.gave below went_left,
    wired n q.drivers right q.builds q.took q.gave under went_right,
    λ k lt. same-trans (put k lt) (same-from_equal (passed_on n w took gave went k lt)),
  )
