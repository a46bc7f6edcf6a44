-- A driver that failed fails on a row, or on a group, that the plan's tree may list. One clause a rule.
use Rattle.std.proofs.Common.{◌≡◌, ℕ, ◌<◌, List, [], refl, arith, subst, length}
use Rattle.std.specs.Prelude.{Contains}
use Rattle.sql_values.specs.declared.value.Value.{Value}
use Rattle.sql_values.specs.declared.fail.Fail.{Fail}
use Rattle.sql_values.specs.declared.relational.Call.{Call}
use Rattle.relation_laws.specs.Groups.{groups_of}
use Rattle.relation_laws.specs.Verdicts.{Verdict, fails}
use Rattle.bag_laws.specs.Buckets.{AllBelow, at_places}
use Rattle.bag_laws.specs.Gather.{gather}
use Rattle.bag_laws.specs.Laws.{TaskRows}
use Rattle.bag_laws.specs.Pieces.{finals_of}
use Rattle.bag_laws.proofs.BagLemmas.{same-trans}
use Rattle.bag_laws.proofs.GroupLemmas.{same-groups_of}
use Rattle.bag_laws.proofs.LawLemmas.{groups-by_columns}
use Rattle.plan_trees.specs.Allowed.{Gives, skipping}
use Rattle.plan_trees.specs.Steps.{RowFails, StepFails, StepForm, aggregate, is_late}
use Rattle.plan_trees.specs.Stopped.{FailsOn, MayHaveGiven}
use Rattle.plan_trees.specs.TreeForms.{TreeForm, remote}
use Rattle.plan_trees.specs.TreeTypes.{types_of}
use Rattle.plan_trees.specs.Widths.{FitsWidths}
use Rattle.plan_trees.proofs.GivenLemmas.{all-came, may_have_given}
use Rattle.plan_run_laws.specs.Faults.{FailedFinal, FailedOver}
use Rattle.plan_trees.specs.HalvedSteps.{HalvedForm, whole_step}
use Rattle.plan_trees.specs.HalvedSteps as halved
use Rattle.plan_run_laws.specs.Nets.{Below, Lanes, of_tasks}
use Rattle.plan_run_laws.specs.Placements.{IsRead, Placed, scan_whole, scan_any, values_whole, values_every, remote_whole, remote_by, remote_every, step_whole, halves_whole, filter_stays, project_any, project_by, project_every, join_whole, join_right_every, join_by, aggregate_by, final_by, union_whole, union_any, union_every, any_from_by}
use Rattle.plan_run_laws.specs.RunPlans.{Output, RunPlan, hashed, single, tree_of_run}
use Rattle.plan_run_laws.specs.RunPlans as plan
use Rattle.plan_run_laws.specs.Runs.{AllInPieces, EdgePassed}
use Rattle.plan_run_laws.specs.Spreads.{Says, Spread, Together, any, by, every, whole}
use Rattle.plan_run_laws.specs.Stages.{Makes, MayHave, StageFails, first_half, second_half}
use Rattle.plan_run_laws.specs.Stops.{Flags, Notes}
use Rattle.plan_run_laws.specs.Wholes.{longer}
use Rattle.plan_run_laws.proofs.AmongLemmas.{among-gather, among-same, failure-same}
use Rattle.plan_run_laws.proofs.ComposeLemmas.{composed, some_tasks}
use Rattle.plan_run_laws.proofs.ExtendLemmas.{extend, rest_of, rest_went}
use Rattle.plan_run_laws.proofs.GroupSteps.{same_finals}
use Rattle.plan_run_laws.proofs.HalvesSteps.{passed_pieces}
use Rattle.plan_run_laws.proofs.LaneLemmas.{of_driver}
use Rattle.plan_run_laws.proofs.ReadLemmas.{given_remote, read}
use Rattle.plan_run_laws.proofs.StepTables.{fails_together, merged_fails}
use Rattle.plan_run_laws.proofs.WireLemmas.{in_pieces, wired}

-- a node that is whole stands in a fragment of one task
abbrev pub OneTask : ℕ → Spread → Type 0
OneTask n whole = n ≡ 1
OneTask n any = Unit {0}
OneTask n (by columns) = Unit {0}
OneTask n every = Unit {0}

pub one_task : {n : ℕ} {node : RunPlan} {s : Spread} → Placed n node s → OneTask n s
one_task scan_whole = refl
one_task scan_any = tt
one_task values_whole = refl
one_task values_every = tt
one_task (remote_whole r d) = refl
one_task (remote_by below r d) = tt
one_task (remote_every r d) = tt
one_task (step_whole d) = refl
one_task (halves_whole r d) = refl
one_task (filter_stays d) = one_task d
one_task (project_any d) = tt
one_task (project_by plain d) = tt
one_task (project_every d) = tt
one_task (join_whole d e) = refl
one_task (join_right_every d e) = one_task d
one_task (join_by pairs among d e) = tt
one_task (aggregate_by some among d) = tt
one_task (final_by some among r d) = tt
one_task (union_whole d e) = refl
one_task (union_any d e) = tt
one_task (union_every d e) = tt
one_task (any_from_by d) = tt

module _ (tables : List (List (List Value))) where
  -- a row of a task stands in a list that the tree gives
  pub among_given : (t : TreeForm) (s : Spread) (n : ℕ) (lists : TaskRows) → OneTask n s → Says s skipping t tables n lists
      → (k : ℕ) → k < n → (row : List Value) → Contains (lists k) row → (given : List (List Value)) × Gives skipping t tables given × Contains given row
  among_given t whole n lists one says k lt row among =
      let first : k ≡ 0 = omega (arith, lt, one) in
      (lists 0, says, subst (λ (j : ℕ). Contains (lists j) row) first among)
  among_given t any n lists one says k lt row among =
      (says.rows, says.given, among-same (gather n lists) says.rows row says.same (among-gather n lists row k lt among))
  among_given t (by columns) n lists one says k lt row among =
      (says.0.rows, says.0.given, among-same (gather n lists) says.0.rows row says.0.same (among-gather n lists row k lt among))
  among_given t every n lists one says k lt row among =
      (says.rows, says.given, among-same (lists k) says.rows row (says.same k lt) among)

  -- the run that goes on from where the driver failed, up to its stage
  record Ended (Fails : List (List Value) → Type 0) (s : Spread) (t : TreeForm) (n w : ℕ) : Type 0 where
    pub lanes : Lanes
    pub says : Says s skipping t tables n (of_tasks w lanes)
    pub task : ℕ
    pub driver : ℕ
    pub in_tasks : task < n
    pub in_drivers : driver < w
    pub failed : Fails (lanes task driver)

  ended_over : (Fails : List (List Value) → Type 0) {n : ℕ} {input : RunPlan} {s : Spread} (w : ℕ) (notes : Notes) (took : Lanes) (ended : Flags)
      → 0 < n → FitsWidths (tree_of_run input) → Placed n input s → FailedOver Fails tables n w input notes took ended → Ended Fails s (tree_of_run input) n w
  ended_over Fails {n = n} {input = input} {s = s} w notes took ended lt fits d f =
      let all = extend tables n w input notes took ended f.stops in
      let r = rest_of tables [] n w input notes took f.gave ended f.done f.opened all in
      record {
        lanes = longer f.gave r.rest;
        says = composed skipping tables lt fits d (of_tasks w (longer f.gave r.rest))
            (wired skipping tables n w input all.builds (longer took all.more) (longer f.gave r.rest) all.below
            (rest_went tables n w input all.builds (longer took all.more) f.gave f.done r));
        task = f.task;
        driver = f.driver;
        in_tasks = f.in_tasks;
        in_drivers = f.in_drivers;
        failed = f.failed (r.rest f.task f.driver) (r.none f.task f.driver f.in_tasks f.in_drivers);
      }

  -- a row failed in a fragment of any spread
  pub row_failed : {n : ℕ} {input : RunPlan} {s : Spread} (judge : List Value → Verdict) (kind : Fail) (w : ℕ) (notes : Notes) (took : Lanes) (ended : Flags)
      → 0 < n → FitsWidths (tree_of_run input) → Placed n input s → FailedOver (λ rows. RowFails judge rows kind) tables n w input notes took ended
      → (given : List (List Value)) × MayHaveGiven (tree_of_run input) tables given × RowFails judge given kind
  row_failed {n = n} {input = input} {s = s} judge kind w notes took ended lt fits d f =
      let e = ended_over (λ rows. RowFails judge rows kind) w notes took ended lt fits d f in
      let row = e.failed.0 in
      let a = among_given (tree_of_run input) s n (of_tasks w e.lanes) (one_task d) e.says e.task e.in_tasks row
      (among-gather w (e.lanes e.task) row e.driver e.in_drivers e.failed.1) in
      (a.0, may_have_given (tree_of_run input) tables a.0 a.1, (row, a.2, e.failed.2))

  -- all that a list holds came, where a tree gives it
  pub came_fails : (does : StepForm) (t : TreeForm) (kind : Fail) (given : List (List Value)) → Gives skipping t tables given → StepFails (types_of t) does given kind
      → FailsOn tables does t kind
  came_fails does t kind given gives so =
      record { given = given; may = all-came (is_late does) gives (may_have_given t tables given gives); so = so }

  pub step_failed : {input : RunPlan} (does : StepForm) (kind : Fail) (w : ℕ) (notes : Notes) (took : Lanes) (ended : Flags)
      → FitsWidths (tree_of_run input) → Placed 1 input whole → MayHave does w
      → FailedOver (λ rows. StepFails (types_of (tree_of_run input)) does rows kind) tables 1 w input notes took ended
      → FailsOn tables does (tree_of_run input) kind
  step_failed {input = input} does kind w notes took ended fits d some f =
      let Fails : List (List Value) → Type 0 = λ rows. StepFails (types_of (tree_of_run input)) does rows kind in
      let e = ended_over Fails w notes took ended (omega arith) fits d f in
      let first : e.task ≡ 0 = omega (arith, e.in_tasks) in
      came_fails does (tree_of_run input) kind (of_tasks w e.lanes 0) e.says
      (subst (λ (k : ℕ). Fails (of_tasks w e.lanes k)) first
      (fails_together (types_of (tree_of_run input)) does kind w some (e.lanes e.task) e.driver e.in_drivers e.failed))

  -- a group of a task is one of all rows, where groups are whole in a task
  pub group_fails : (t : TreeForm) (keys places : List ℕ) (calls : List Call) (kind : Fail) (n : ℕ) (lists : TaskRows) → 0 < n → 0 < length keys
      → AllBelow (length keys) places → Says (by (at_places keys places)) skipping t tables n lists
      → (k : ℕ) → k < n → StepFails (types_of t) (aggregate keys calls) (lists k) kind → FailsOn tables (aggregate keys calls) t kind
  group_fails t keys places calls kind n lists lt some below says k less failed =
      let verdicts = groups_of (types_of t) keys calls in
      came_fails (aggregate keys calls) t kind says.0.rows says.0.given
      (failure-same kind (gather n (λ j. verdicts (lists j))) (verdicts says.0.rows)
      (same-trans (groups-by_columns (types_of t) keys calls places n some lt below lists says.1) (same-groups_of (types_of t) calls keys says.0.same))
      (among-gather n (λ j. verdicts (lists j)) (fails kind) k less failed))

  pub aggregate_failed : {n : ℕ} {input : RunPlan} (keys places : List ℕ) (calls : List Call) (kind : Fail) (w : ℕ) (notes : Notes) (took : Lanes) (ended : Flags)
      → 0 < n → FitsWidths (tree_of_run input) → 0 < length keys → AllBelow (length keys) places → Placed n input (by (at_places keys places)) → w ≡ 1
      → FailedOver (λ rows. StepFails (types_of (tree_of_run input)) (aggregate keys calls) rows kind) tables n w input notes took ended
      → FailsOn tables (aggregate keys calls) (tree_of_run input) kind
  aggregate_failed {n = n} {input = input} keys places calls kind w notes took ended lt fits some below d one f =
      let Fails : List (List Value) → Type 0 = λ rows. StepFails (types_of (tree_of_run input)) (aggregate keys calls) rows kind in
      let e = ended_over Fails w notes took ended lt fits d f in
      group_fails (tree_of_run input) keys places calls kind n (of_tasks w e.lanes) lt some below e.says e.task e.in_tasks
      (of_driver Fails w one (e.lanes e.task) e.driver e.in_drivers e.failed)

  -- what came over the edge of a FINAL node from a whole run below
  pub record Passed (output : Output) (m n : ℕ) (t : TreeForm) (h : HalvedForm) (got : TaskRows) : Type 0 where
    pub ins : TaskRows
    pub parts : TaskRows
    pub below : Together skipping t tables m ins
    pub each : AllInPieces (Makes skipping (first_half (types_of t) h)) m ins parts
    pub passed : EdgePassed output m n parts got

  -- what a FINAL node fails on is there in a list that the tree below gives
  pub halves_fail : (t : TreeForm) (h : HalvedForm) (kind : Fail) (source m : ℕ) (got : TaskRows) → Passed single m 1 t h got
      → (k : ℕ) → k < 1 → StageFails (second_half (types_of t) h) (got k) kind → FailsOn tables (whole_step h) (remote source t) kind
  halves_fail t h kind source m got c k less failed =
      let first : k ≡ 0 = omega (arith, less) in
      came_fails (whole_step h) (remote source t) kind c.below.rows (given_remote skipping t tables source c.below.rows c.below.given)
      (merged_fails (types_of t) h kind c.below.rows (got 0) (passed_pieces skipping tables t h m c.ins c.parts got c.below c.each c.passed)
      (subst (λ (j : ℕ). StageFails (second_half (types_of t) h) (got j) kind) first failed))

  pub final_fails : (t : TreeForm) (keys columns : List ℕ) (calls : List Call) (kind : Fail) (id source m n : ℕ) (got : TaskRows)
      → 0 < n → 0 < length keys → AllBelow (length keys) columns → Passed (hashed columns) m n t (halved.aggregate keys calls) got
      → (k : ℕ) → k < n → Contains (finals_of (types_of t) (length keys) calls (got k)) (fails kind)
      → FailsOn tables (aggregate keys calls) (remote source t) kind
  final_fails t keys columns calls kind id source m n got lt some below c k less failed =
      let finals = finals_of (types_of t) (length keys) calls in
      came_fails (aggregate keys calls) (remote source t) kind c.below.rows (given_remote skipping t tables source c.below.rows c.below.given)
      (failure-same kind (gather n (λ j. finals (got j))) (groups_of (types_of t) keys calls c.below.rows)
      (same_finals skipping tables id source m keys calls t c.ins c.parts got got c.below c.each n columns lt some below c.passed)
      (among-gather n (λ j. finals (got j)) (fails kind) k less failed))

  passed_on : {m : ℕ} {input : RunPlan} {s : Spread} (n w id source : ℕ) (output : Output) (h : HalvedForm) (builds : List TaskRows) (took : Lanes)
      → IsRead m s → FitsWidths (tree_of_run input) → Placed m input s → Below skipping tables n w (plan.halves id source output m h input) builds took
      → (w ≡ 1) × Passed output m n (tree_of_run input) h (of_tasks w took)
  passed_on {m = m} {input = input} {s = s} n w id source output h builds took r fits d (p, one, below, (between, under, makes), passed) = (
    one,
    record {
      ins = of_tasks p.drivers between;
      parts = of_tasks p.drivers p.gave;
      below = read skipping (tree_of_run input) tables m s (of_tasks p.drivers between) r
          (composed skipping tables (some_tasks m s r) fits d (of_tasks p.drivers between) (wired skipping tables m p.drivers input p.builds p.took between below under));
      each = in_pieces skipping tables (Makes skipping (first_half (types_of (tree_of_run input)) h)) m p.drivers between p.gave makes;
      passed = passed;
    },
  )

  -- the stage of a FINAL node failed on the rows that came so far, and on all that would come
  pub passed_whole : {m : ℕ} {input : RunPlan} {s : Spread} (Fails : List (List Value) → Type 0) (n w id source : ℕ) (output : Output) (h : HalvedForm)
      (notes : Notes) (took : Lanes) (ended : Flags) → IsRead m s → FitsWidths (tree_of_run input) → Placed m input s
      → FailedFinal Fails tables n w (plan.halves id source output m h input) notes took ended
      → (got : TaskRows) × Passed output m n (tree_of_run input) h got × ((k : ℕ) × (k < n) × Fails (got k))
  passed_whole {m = m} {input = input} Fails n w id source output h notes took ended r fits d f =
      let all = extend tables n w (plan.halves id source output m h input) notes took ended f.stops in
      let c = passed_on n w id source output h all.builds (longer took all.more) r fits d all.below in (
        of_tasks w (longer took all.more),
        c.1,
        (
          f.task,
          f.in_tasks,
          of_driver Fails w c.0 (longer took all.more f.task) f.driver f.in_drivers
              (f.failed (all.more f.task f.driver) (all.none f.task f.driver f.in_tasks f.in_drivers)),
        ),
      )
