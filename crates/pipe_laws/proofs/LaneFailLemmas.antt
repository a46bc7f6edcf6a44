-- An operator of one driver that failed, in the run that it stopped.
use Rattle.std.proofs.Common.{◌≡◌, ◌⊎◌, inl, inr, ℕ, ◌<◌, List, [], ◌∷◌, ◌++◌, Bool, true, length, get_or, take, refl, ap, sym, subst, append-nil}
use Rattle.std.proofs.lemmas.Bool.{cases_eq}
use Rattle.sql_values.specs.declared.fail.Fail.{Fail}
use Rattle.sql_values.specs.declared.types.SqlType.{SqlType}
use Rattle.sql_values.specs.declared.relational.JoinKind.{JoinKind}
use Rattle.col_pages.specs.Fits.{AllFit}
use Rattle.operator_core.specs.declared.operator.Operator.{Ghosts}
use Rattle.operator_core.specs.Rows.{Row}
use Rattle.operator_core.specs.Calls.{IsLawful}
use Rattle.operator_core.specs.Stages.{FailsAfter, Linked, ToldInTurn, last_finished}
use Rattle.bag_laws.proofs.GatherLemmas.{chosen}
use Rattle.plan_trees.specs.TreeTypes.{types_of}
use Rattle.plan_run_laws.specs.Faults.{Failed, FailedOver}
use Rattle.plan_run_laws.specs.Nets.{Lanes}
use Rattle.plan_run_laws.specs.Stages.{Stage, does}
use Rattle.plan_run_laws.specs.RunPlans.{RunPlan, tree_of_run, scan, values, remote, step, halves, join, union}
use Rattle.plan_run_laws.specs.Spreads.{Tables}
use Rattle.plan_run_laws.specs.Stops.{AreOpen, StagesCanGoOn, Flags, MayCome, Stops}
use Rattle.stage_meanings.specs.Meanings.{Means}
use Rattle.stage_meanings.specs.Pipelines.{FailsOn, NodeStage, at_node, stages_of}
use Rattle.stage_meanings.proofs.MeaningLemmas.{comes}
use Rattle.pipe_laws.specs.Operators.{EndsIn, Operate, types_of_source}
use Rattle.pipe_laws.specs.Stopped.{FailsAt, FailsOver, IsOpen}
use Rattle.pipe_laws.specs.Trees.{stages_over}
use Rattle.pipe_laws.proofs.OperatorLemmas.{InFront, at_last_or_before, came_before, fails_of, moved, stood_at}
use Rattle.pipe_laws.proofs.SnocLemmas.{only_one}
use Rattle.pipe_laws.proofs.TreeLemmas.{are_for, in_task}
use Rattle.pipe_laws.specs.Lanes.{AreHalved, AreLanes, HasNotes, IsHalved, IsLane, NeverFails, Noted, notes_of_lanes, other_notes}
use Rattle.pipe_laws.proofs.NoteLemmas.{agreed, builds_for}
use Rattle.pipe_laws.proofs.LaneLemmas.{lane_open}

-- the operators up to the input of a node, what came out of them, and whether the last is finished
record InputLane (S : Type 0) : Type 0 where
  all : List S
  came : List Row
  told : Bool

module _ {S : Type 0} (g : Ghosts S) (laws : IsLawful g) where
  -- the drivers up to the input of a node
  record InputLanes (n w : ℕ) (input : RunPlan) (notes : ℕ → ℕ → Noted) (took : Lanes) (ended : Flags) : Type 0 where
    all : ℕ → ℕ → List S
    came : Lanes
    told : Flags
    lanes : AreLanes g n w input notes all took came ended told

  abbrev IsInput : RunPlan → Noted → List Row → Bool → InputLane S → Type 0
  IsInput input notes took ended f = IsLane g input notes f.all took f.came ended f.told

  input_of : (input : RunPlan) (notes : Noted) (all : List S) (Is : S → List SqlType → Type 0) → HasNotes input notes → (o : EndsIn (Operate g input notes) Is all)
      → (ended : Bool) (took gave : List Row) → ToldInTurn g ended all → Linked g all took gave → AllFit (types_of_source input) took → (f : InputLane S) × IsInput input notes took ended f
  input_of input notes all Is has o ended took gave turns linked fit =
      let b = came_before g laws all o.before o.last ended took gave o.are turns linked in (
        record { all = o.before; came = b.came; told = last_finished g ended o.before },
        record { given = o.between; operate = o.input; noted = has; turns = b.told; linked = b.linked; fit = fit; done_is = refl },
      )

  no_lane : InputLane S
  no_lane = record { all = []; came = []; told = true }

  gathered : (n w : ℕ) (P : ℕ → ℕ → InputLane S → Type 0) → ((k d : ℕ) → k < n → d < w → (f : InputLane S) × P k d f) → (inputs : ℕ → ℕ → InputLane S) × ((k d : ℕ) → k < n → d < w → P k d (inputs k d))
  gathered n w P each =
      let all = chosen (λ k (f : ℕ → InputLane S). (d : ℕ) → d < w → P k d (f d)) (λ d. no_lane) n (λ k lt. chosen (P k) no_lane w (λ d less. each k d lt less)) in
      (all.0, λ k d lt less. all.1 k lt d less)

  input_lanes : (n w : ℕ) (input : RunPlan) (notes : ℕ → ℕ → Noted) (took : Lanes) (ended : Flags)
      → ((k d : ℕ) → k < n → d < w → (f : InputLane S) × IsInput input (notes k d) (took k d) (ended k d) f) → InputLanes n w input notes took ended
  input_lanes n w input notes took ended each =
      let all = gathered n w (λ k d f. IsInput input (notes k d) (took k d) (ended k d) f) each in
      record { all = λ k d. (all.0 k d).all; came = λ k d. (all.0 k d).came; told = λ k d. (all.0 k d).told; lanes = all.1 }

  -- one of the drivers failed over its input
  module _ (Fails : List Row → Type 0) (tables : Tables) (n w : ℕ) (input : RunPlan) (notes : ℕ → ℕ → Noted) (took : Lanes) (ended : Flags) (task driver : ℕ) where
    abbrev Opened : ℕ → ℕ → InputLane S → Type 0
    Opened k d f =
        IsOpen input (notes k d) (took k d) f.came (ended k d) f.told × (k ≡ task → d ≡ driver → (more : List Row) → MayCome f.told more → Fails (f.came ++ more))

    opened_at : InputLanes n w input notes took ended → FailsOver Fails input (notes task driver) (took task driver) (ended task driver)
        → (k d : ℕ) → k < n → d < w → (k ≡ task) ⊎ (¬ (k ≡ task)) → (d ≡ driver) ⊎ (¬ (d ≡ driver)) → (f : InputLane S) × Opened k d f
    opened_at i over k d lt less (inl same) (inl alike) = (
      record { all = []; came = over.came; told = over.told },
      (
        subst (λ (j : ℕ). IsOpen input (notes j d) (took j d) over.came (ended j d) over.told) (sym same)
            (subst (λ (e : ℕ). IsOpen input (notes task e) (took task e) over.came (ended task e) over.told) (sym alike) over.opened),
        λ one two. over.fails,
      ),
    )
    opened_at i over k d lt less (inl same) (inr other) = (
      record { all = i.all k d; came = i.came k d; told = i.told k d },
      (lane_open g laws input (notes k d) (i.all k d) (took k d) (i.came k d) (ended k d) (i.told k d) (i.lanes k d lt less), λ one two. absurd (other two)),
    )
    opened_at i over k d lt less (inr other) any = (
      record { all = i.all k d; came = i.came k d; told = i.told k d },
      (lane_open g laws input (notes k d) (i.all k d) (took k d) (i.came k d) (ended k d) (i.told k d) (i.lanes k d lt less), λ one two. absurd (other one)),
    )

    all_open : (inputs : ℕ → ℕ → InputLane S) → ((k d : ℕ) → k < n → d < w → Opened k d (inputs k d)) → ((k d : ℕ) → k < n → d < w → HasNotes input (notes k d))
        → AreOpen [] n w input (notes_of_lanes input notes) took (λ k d. (inputs k d).came) ended (λ k d. (inputs k d).told)
    all_open inputs each has = λ k d lt less builds noted.
        let agrees = agreed input notes builds k d (has k d lt less) noted in
        let stages = stages_of (stages_over input (in_task k builds)) in (
          stages,
          are_for input builds k (builds_for input (notes k d) (in_task k builds) (has k d lt less) agrees),
          subst (λ p. StagesCanGoOn p (took k d) (inputs k d).came (ended k d) (inputs k d).told) (sym (append-nil stages)) ((each k d lt less).0 (in_task k builds) agrees),
        )

    failed_over : InputLanes n w input notes took ended → Stops tables n w input (notes_of_lanes input notes) took ended → task < n → driver < w
        → FailsOver Fails input (notes task driver) (took task driver) (ended task driver) → FailedOver Fails tables n w input (notes_of_lanes input notes) took ended
    failed_over i stops in_tasks in_drivers over =
        let all = gathered n w Opened (λ k d lt less. opened_at i over k d lt less (cases_eq k task) (cases_eq d driver)) in
        record {
          stops = stops;
          gave = λ k d. (all.0 k d).came;
          done = λ k d. (all.0 k d).told;
          opened = all_open all.0 all.1 (λ k d lt less. (i.lanes k d lt less).noted);
          task = task;
          driver = driver;
          in_tasks = in_tasks;
          in_drivers = in_drivers;
          failed = (all.1 task driver in_tasks in_drivers).1 refl refl;
        }

  -- a driver along a join's left side
  left_lane : (id : ℕ) (kind : JoinKind) (on : List (ℕ × ℕ)) (left right : RunPlan) (notes : Noted) (all : List S) (took gave : List Row) (ended done : Bool)
      → IsLane g (join id kind on left right) notes all took gave ended done → (f : InputLane S) × IsInput left (other_notes notes) took ended f
  left_lane id kind on left right [] all took gave ended done lane = absurd lane.noted
  left_lane id kind on left right (noted ∷ notes) all took gave ended done lane = input_of left notes all _ lane.noted lane.operate ended took gave lane.turns lane.linked lane.fit

  module _ (tables : Tables) (n w : ℕ) (took : Lanes) (ended : Flags) (node : ℕ) (kind : Fail) (task driver : ℕ) (in_tasks : task < n) (in_drivers : driver < w) where
    fails_left : (id : ℕ) (how : JoinKind) (on : List (ℕ × ℕ)) (left right : RunPlan) (notes : Noted) → HasNotes (join id how on left right) notes
        → FailsAt (join id how on left right) notes (took task driver) (ended task driver) node kind → FailsAt left (other_notes notes) (took task driver) (ended task driver) node kind
    fails_left id how on left right [] has f = absurd has
    fails_left id how on left right (noted ∷ notes) has f = f

    lanes_failed_at : (run : RunPlan) (notes : ℕ → ℕ → Noted) (all : ℕ → ℕ → List S) (gave : Lanes) (done : Flags) → AreLanes g n w run notes all took gave ended done
        → Stops tables n w run (notes_of_lanes run notes) took ended → FailsAt run (notes task driver) (took task driver) (ended task driver) node kind
        → Failed tables n w run (notes_of_lanes run notes) took ended node kind
    lanes_failed_at (scan id table columns types) notes all gave done lanes stops f = absurd f
    lanes_failed_at (values id types rows) notes all gave done lanes stops f = absurd f
    lanes_failed_at (remote id output tasks input) notes all gave done lanes stops f = absurd f
    lanes_failed_at (step id s input) notes all gave done lanes (may, stops) (inl (same, over)) =
        let i = input_lanes n w input notes took ended (λ k d lt less. let l = lanes k d lt less in input_of input (notes k d) (all k d) _ l.noted l.operate (ended k d) (took k d) (gave k d) l.turns l.linked l.fit) in
        inl (same, may, failed_over (FailsOn (does (types_of (tree_of_run input)) s) kind) tables n w input notes took ended task driver i stops in_tasks in_drivers over)
    lanes_failed_at (step id s input) notes all gave done lanes (may, stops) (inr f) =
        let i = input_lanes n w input notes took ended (λ k d lt less. let l = lanes k d lt less in input_of input (notes k d) (all k d) _ l.noted l.operate (ended k d) (took k d) (gave k d) l.turns l.linked l.fit) in
        inr (lanes_failed_at input notes i.all i.came i.told i.lanes stops f)
    lanes_failed_at (halves id source output tasks h input) notes all gave done lanes stops f =
        inl (f.0, record { stops = stops; task = task; driver = driver; in_tasks = in_tasks; in_drivers = in_drivers; failed = f.1 })
    lanes_failed_at (join id how on left right) notes all gave done lanes (p, below, opens, known, rest) f =
        let i = input_lanes n w left (λ (k d : ℕ). other_notes (notes k d)) took ended (λ k d lt less. left_lane id how on left right (notes k d) (all k d) (took k d) (gave k d) (ended k d) (done k d) (lanes k d lt less)) in
        inl (lanes_failed_at left (λ (k d : ℕ). other_notes (notes k d)) i.all i.came i.told i.lanes rest
        (fails_left id how on left right (notes task driver) (lanes task driver in_tasks in_drivers).noted f))
    lanes_failed_at (union id left right) notes all gave done lanes stops f = absurd f

    -- an operator of one driver failed
    module _ (i : ℕ) (s : S) where
      pub lanes_failed : (run : RunPlan) (notes : ℕ → ℕ → Noted) (all : ℕ → ℕ → List S) (gave : Lanes) (done : Flags) → AreLanes g n w run notes all took gave ended done
          → Stops tables n w run (notes_of_lanes run notes) took ended → i < length (all task driver) → s ≡ get_or (all task driver) i s
          → FailsAfter g (take i (all task driver)) (g.as_made s) (ended task driver) (took task driver) node kind → Failed tables n w run (notes_of_lanes run notes) took ended node kind
      lanes_failed run notes all gave done lanes stops within is f =
          let l = lanes task driver in_tasks in_drivers in
          lanes_failed_at run notes all gave done lanes stops
          (fails_of g laws node kind run (notes task driver) (all task driver) l.given l.operate (ended task driver) (took task driver) l.fit i s within is f)

      -- the first half at the end never fails
      last_calm : (half : NodeStage) → NeverFails half.stage → (before : List S) (last : S) (between given : List SqlType) → Means g (g.as_made last) between (half ∷ []) given
          → (came : List Row) (told : Bool) → AllFit between came → ((Z : List Row) → MayCome told Z → g.may_still_fail (g.as_made last) (came ++ Z) node kind) → ⊥
      last_calm half never before last between given means came told fit fails =
          let r = means.fails came told node kind fit fails in
          let only = only_one r.before r.after half (at_node node r.stage) r.at in
          never kind (r.came ++ []) (subst (λ (st : Stage). FailsOn st kind (r.came ++ [])) (sym (ap (λ (x : NodeStage). x.stage) only.1)) (r.fails [] (λ e. refl)))

      pub halves_failed : (run : RunPlan) (notes : ℕ → ℕ → Noted) (half : NodeStage) (all : ℕ → ℕ → List S) (gave : Lanes) (done : Flags) → NeverFails half.stage
          → AreHalved g n w run notes half all took gave ended done → Stops tables n w run (notes_of_lanes run notes) took ended → i < length (all task driver) → s ≡ get_or (all task driver) i s
          → FailsAfter g (take i (all task driver)) (g.as_made s) (ended task driver) (took task driver) node kind → Failed tables n w run (notes_of_lanes run notes) took ended node kind
      halves_failed run notes half all gave done never halved stops within is f =
          let h = halved task driver in_tasks in_drivers in
          let inputs = gathered n w (λ k d front. IsInput run (notes k d) (took k d) (ended k d) front)
          (λ k d lt less. let x = halved k d lt less in (record { all = x.before; came = x.came; told = x.told }, x.lane)) in
          lanes_failed_at run notes (λ k d. (inputs.0 k d).all) (λ k d. (inputs.0 k d).came) (λ k d. (inputs.0 k d).told) inputs.1 stops
          (in_front h (at_last_or_before g laws (all task driver) h.before h.last i s h.are within is))
        where
          in_front : (h : IsHalved g run (notes task driver) half (all task driver) (took task driver) (gave task driver) (ended task driver) (done task driver))
              → ((take i (all task driver) ≡ h.before) × (s ≡ h.last)) ⊎ InFront g laws (all task driver) h.before i s
              → FailsAt run (notes task driver) (took task driver) (ended task driver) node kind
          in_front h (inl (front, same)) =
              let m = moved g laws h.before (take i (all task driver)) (g.as_made s) (g.as_made h.last) (ended task driver) (took task driver) node kind front (ap g.as_made same) f in
              let stood = stood_at g laws run (notes task driver) h.before h.lane.given h.lane.operate (ended task driver) (took task driver) m.came m.told m.linked h.lane.fit in
              absurd (last_calm half never h.before h.last h.lane.given h.given h.means m.came (last_finished g (ended task driver) h.before) stood.1
              (λ Z may. m.fails Z (comes (last_finished g (ended task driver) h.before) Z may)))
          in_front h (inr p) =
              fails_of g laws node kind run (notes task driver) h.before h.lane.given h.lane.operate (ended task driver) (took task driver) h.lane.fit i s p.below p.is
              (moved g laws (take i h.before) (take i (all task driver)) (g.as_made s) (g.as_made s) (ended task driver) (took task driver) node kind p.front refl f)
