-- A driver that failed in a run whose scans lost rows fails on a row, or on a group, that the plan's tree may list.
use Rattle.std.proofs.Common.{◌≡◌, ℕ, ◌<◌, List, [], arith, subst, length, ◌++◌}
use Rattle.std.proofs.lemmas.List.Elements.{Contains-append_left}
use Rattle.sql_values.specs.declared.value.Value.{Value}
use Rattle.sql_values.specs.declared.fail.Fail.{Fail}
use Rattle.sql_values.specs.declared.relational.Call.{Call}
use Rattle.relation_laws.specs.Verdicts.{Verdict}
use Rattle.bag_laws.specs.Buckets.{AllBelow, at_places}
use Rattle.bag_laws.specs.Laws.{TaskRows}
use Rattle.plan_trees.specs.Allowed.{skipping}
use Rattle.plan_trees.specs.Judges.{filter_judge, project_judge}
use Rattle.plan_trees.specs.Steps.{RowFails, StepFails, StepForm, aggregate, filter, project}
use Rattle.plan_trees.specs.Stopped.{FailsOn, MayHaveGiven}
use Rattle.plan_trees.specs.TreeForms.{TreeForm}
use Rattle.plan_trees.specs.TreeTypes.{types_of}
use Rattle.plan_trees.specs.Widths.{FitsWidths}
use Rattle.plan_trees.proofs.GivenLemmas.{may_have_given}
use Rattle.plan_run_laws.specs.HalvedSteps.{HalvedForm}
use Rattle.plan_run_laws.specs.Nets.{Lanes, of_tasks}
use Rattle.plan_run_laws.specs.Placements.{IsRead, Placed}
use Rattle.plan_run_laws.specs.RunPlans.{Output, RunPlan, tree_of_run}
use Rattle.plan_run_laws.specs.RunPlans as plan
use Rattle.plan_run_laws.specs.Spreads.{Says, Spread, by, whole}
use Rattle.plan_run_laws.specs.Stages.{Makes, MayHave, first_half}
use Rattle.plan_run_laws.specs.Stops.{Flags, Notes}
use Rattle.plan_run_laws.specs.Wholes.{longer}
use Rattle.plan_run_laws.proofs.AmongLemmas.{among-gather}
use Rattle.plan_run_laws.proofs.ComposeLemmas.{composed, some_tasks}
use Rattle.plan_run_laws.proofs.ExtendLemmas.{rest_went}
use Rattle.plan_run_laws.proofs.FaultLemmas.{Passed, among_given, came_fails, group_fails, one_task}
use Rattle.plan_run_laws.proofs.LaneLemmas.{of_driver}
use Rattle.plan_run_laws.proofs.ReadLemmas.{read}
use Rattle.plan_run_laws.proofs.WireLemmas.{in_pieces}
use Rattle.lost_row_laws.specs.Faults.{FailedFinalLosing, FailedOverLosing}
use Rattle.lost_row_laws.specs.Nets.{BelowLosing}
use Rattle.lost_row_laws.specs.Runs.{AreTyped}
use Rattle.lost_row_laws.specs.Sieves.{MayLose, Sieve}
use Rattle.lost_row_laws.proofs.ExtendLemmas.{extend, rest_of}
use Rattle.lost_row_laws.proofs.RestoreLemmas.{put_back, restored}
use Rattle.lost_row_laws.proofs.WireLemmas.{wired}

module _ (tables : List (List (List Value))) where
  -- the run that goes on from where the driver failed, up to its stage, with the rows that were lost on the way
  record Ended (Fails : List (List Value) → Type 0) (s : Spread) (t : TreeForm) (n w : ℕ) : Type 0 where
    pub lanes : Lanes
    pub lost : TaskRows
    pub says : Says s skipping t tables n (λ k. of_tasks w lanes k ++ lost k)
    pub task : ℕ
    pub driver : ℕ
    pub in_tasks : task < n
    pub in_drivers : driver < w
    pub failed : Fails (lanes task driver)

  ended_over : (Fails : List (List Value) → Type 0) {n : ℕ} {input : RunPlan} {s : Spread} (sieves : List Sieve) (w : ℕ) (notes : Notes) (took : Lanes) (ended : Flags)
      → 0 < n → AreTyped input → FitsWidths (tree_of_run input) → Placed n input s → FailedOverLosing Fails tables sieves n w input notes took ended
      → Ended Fails s (tree_of_run input) n w
  ended_over Fails {n = n} {input = input} {s = s} sieves w notes took ended lt typed fits d f =
      let all = extend tables sieves n w input notes took ended f.stops in
      let r = rest_of tables sieves [] n w input notes took f.gave ended f.done f.opened all in
      let lanes = longer f.gave r.rest in
      let whole = restored skipping tables n input sieves typed (of_tasks w lanes)
      (wired skipping tables sieves n w input all.builds (longer took all.more) lanes all.below
      (rest_went tables n w input all.builds (longer took all.more) f.gave f.done r)) in
      record {
        lanes = lanes;
        lost = whole.lost;
        says = composed skipping tables lt fits d (λ k. of_tasks w lanes k ++ whole.lost k) whole.ran;
        task = f.task;
        driver = f.driver;
        in_tasks = f.in_tasks;
        in_drivers = f.in_drivers;
        failed = f.failed (r.rest f.task f.driver) (r.none f.task f.driver f.in_tasks f.in_drivers);
      }

  -- where no sieve comes from above nothing is lost
  record EndedWhole (Fails : List (List Value) → Type 0) (s : Spread) (t : TreeForm) (n w : ℕ) : Type 0 where
    pub lanes : Lanes
    pub says : Says s skipping t tables n (of_tasks w lanes)
    pub task : ℕ
    pub driver : ℕ
    pub in_tasks : task < n
    pub in_drivers : driver < w
    pub failed : Fails (lanes task driver)

  ended_whole : (Fails : List (List Value) → Type 0) {n : ℕ} {input : RunPlan} {s : Spread} (w : ℕ) (notes : Notes) (took : Lanes) (ended : Flags)
      → 0 < n → AreTyped input → FitsWidths (tree_of_run input) → Placed n input s → FailedOverLosing Fails tables [] n w input notes took ended
      → EndedWhole Fails s (tree_of_run input) n w
  ended_whole Fails {n = n} {input = input} {s = s} w notes took ended lt typed fits d f =
      let all = extend tables [] n w input notes took ended f.stops in
      let r = rest_of tables [] [] n w input notes took f.gave ended f.done f.opened all in
      let lanes = longer f.gave r.rest in
      record {
        lanes = lanes;
        says = composed skipping tables lt fits d (of_tasks w lanes)
            (put_back skipping tables n input typed (of_tasks w lanes)
            (wired skipping tables [] n w input all.builds (longer took all.more) lanes all.below
            (rest_went tables n w input all.builds (longer took all.more) f.gave f.done r)));
        task = f.task;
        driver = f.driver;
        in_tasks = f.in_tasks;
        in_drivers = f.in_drivers;
        failed = f.failed (r.rest f.task f.driver) (r.none f.task f.driver f.in_tasks f.in_drivers);
      }

  -- a row failed, in a fragment of any spread
  pub row_failed : {n : ℕ} {input : RunPlan} {s : Spread} (judge : List Value → Verdict) (kind : Fail) (sieves : List Sieve) (w : ℕ) (notes : Notes) (took : Lanes)
      (ended : Flags) → 0 < n → AreTyped input → FitsWidths (tree_of_run input) → Placed n input s
      → FailedOverLosing (λ rows. RowFails judge rows kind) tables sieves n w input notes took ended
      → (given : List (List Value)) × MayHaveGiven (tree_of_run input) tables given × RowFails judge given kind
  row_failed {n = n} {input = input} {s = s} judge kind sieves w notes took ended lt typed fits d f =
      let e = ended_over (λ rows. RowFails judge rows kind) sieves w notes took ended lt typed fits d f in
      let row = e.failed.0 in
      let a = among_given tables (tree_of_run input) s n (λ k. of_tasks w e.lanes k ++ e.lost k) (one_task d) e.says e.task e.in_tasks row
      (Contains-append_left (of_tasks w e.lanes e.task) (e.lost e.task) row (among-gather w (e.lanes e.task) row e.driver e.in_drivers e.failed.1)) in
      (a.0, may_have_given (tree_of_run input) tables a.0 a.1, (row, a.2, e.failed.2))

  pub step_failed : {input : RunPlan} (does : StepForm) (kind : Fail) (sieves : List Sieve) (w : ℕ) (notes : Notes) (took : Lanes) (ended : Flags)
      → AreTyped input → FitsWidths (tree_of_run input) → Placed 1 input whole → MayHave does w → MayLose does sieves
      → FailedOverLosing (λ rows. StepFails (types_of (tree_of_run input)) does rows kind) tables sieves 1 w input notes took ended
      → FailsOn tables does (tree_of_run input) kind
  step_failed {input = input} (filter predicate) kind sieves w notes took ended typed fits d some lose f =
      let r = row_failed (filter_judge (types_of (tree_of_run input)) predicate) kind sieves w notes took ended (omega arith) typed fits d f in
      record { given = r.0; may = r.1; so = r.2 }
  step_failed {input = input} (project columns) kind sieves w notes took ended typed fits d some lose f =
      let r = row_failed (project_judge (types_of (tree_of_run input)) columns) kind sieves w notes took ended (omega arith) typed fits d f in
      record { given = r.0; may = r.1; so = r.2 }
  step_failed {input = input} does kind sieves w notes took ended typed fits d one none f =
      let Fails : List (List Value) → Type 0 = λ rows. StepFails (types_of (tree_of_run input)) does rows kind in
      let e = ended_whole Fails w notes took ended (omega arith) typed fits d
      (subst (λ (all : List Sieve). FailedOverLosing Fails tables all 1 w input notes took ended) none f) in
      let first : e.task ≡ 0 = omega (arith, e.in_tasks) in
      came_fails tables does (tree_of_run input) kind (of_tasks w e.lanes 0) e.says
      (subst (λ (k : ℕ). Fails (of_tasks w e.lanes k)) first (of_driver Fails w one (e.lanes e.task) e.driver e.in_drivers e.failed))

  pub aggregate_failed : {n : ℕ} {input : RunPlan} (keys places : List ℕ) (calls : List Call) (kind : Fail) (w : ℕ) (notes : Notes) (took : Lanes) (ended : Flags)
      → 0 < n → AreTyped input → FitsWidths (tree_of_run input) → 0 < length keys → AllBelow (length keys) places → Placed n input (by (at_places keys places)) → w ≡ 1
      → FailedOverLosing (λ rows. StepFails (types_of (tree_of_run input)) (aggregate keys calls) rows kind) tables [] n w input notes took ended
      → FailsOn tables (aggregate keys calls) (tree_of_run input) kind
  aggregate_failed {n = n} {input = input} keys places calls kind w notes took ended lt typed fits some below d one f =
      let Fails : List (List Value) → Type 0 = λ rows. StepFails (types_of (tree_of_run input)) (aggregate keys calls) rows kind in
      let e = ended_whole Fails w notes took ended lt typed fits d f in
      group_fails tables (tree_of_run input) keys places calls kind n (of_tasks w e.lanes) lt some below e.says e.task e.in_tasks
      (of_driver Fails w one (e.lanes e.task) e.driver e.in_drivers e.failed)

  passed_edge : {m : ℕ} {input : RunPlan} {s : Spread} (n w id source : ℕ) (output : Output) (h : HalvedForm) (builds : List TaskRows) (took : Lanes)
      → IsRead m s → AreTyped input → FitsWidths (tree_of_run input) → Placed m input s
      → BelowLosing skipping tables [] n w (plan.halves id source output m h input) builds took
      → (w ≡ 1) × Passed tables output m n (tree_of_run input) h (of_tasks w took)
  passed_edge {m = m} {input = input} {s = s} n w id source output h builds took r typed fits d (p, one, below, (between, fore, makes), passed) = (
    one,
    record {
      ins = of_tasks p.drivers between;
      parts = of_tasks p.drivers p.gave;
      below = read skipping (tree_of_run input) tables m s (of_tasks p.drivers between) r
          (composed skipping tables (some_tasks m s r) fits d (of_tasks p.drivers between) (put_back skipping tables m input typed (of_tasks p.drivers between)
          (wired skipping tables [] m p.drivers input p.builds p.took between below fore)));
      each = in_pieces skipping tables (Makes skipping (first_half (types_of (tree_of_run input)) h)) m p.drivers between p.gave makes;
      passed = passed;
    },
  )

  -- the stage of a FINAL node failed on the rows that came so far, and on all that would come
  pub passed_whole : {m : ℕ} {input : RunPlan} {s : Spread} (Fails : List (List Value) → Type 0) (n w id source : ℕ) (output : Output) (h : HalvedForm)
      (notes : Notes) (took : Lanes) (ended : Flags) → IsRead m s → AreTyped input → FitsWidths (tree_of_run input) → Placed m input s
      → FailedFinalLosing Fails tables n w (plan.halves id source output m h input) notes took ended
      → (got : TaskRows) × Passed tables output m n (tree_of_run input) h got × ((k : ℕ) × (k < n) × Fails (got k))
  passed_whole {m = m} {input = input} Fails n w id source output h notes took ended r typed fits d f =
      let all = extend tables [] n w (plan.halves id source output m h input) notes took ended f.stops in
      let c = passed_edge n w id source output h all.builds (longer took all.more) r typed fits d all.below in (
        of_tasks w (longer took all.more),
        c.1,
        (
          f.task,
          f.in_tasks,
          of_driver Fails w c.0 (longer took all.more f.task) f.driver f.in_drivers
              (f.failed (all.more f.task f.driver) (all.none f.task f.driver f.in_tasks f.in_drivers)),
        ),
      )
