-- What the notes of drivers know of the right sides of their joins.
use Rattle.std.proofs.Common.{◌≡◌, ℕ, zero, suc, ◌<◌, List, [], ◌∷◌, ◌++◌, Option, Some, None, true, false, map, refl, ap, sym, subst, ◌∙◌, arith, append-nil, append_assoc}
use Rattle.std.specs.Prelude.{All, Contains, flat_map, option_map, slice_get, unwrap_or}
use Rattle.std.proofs.lemmas.List.Elements.{All-contains, Contains-append_left, Contains-append_right, Contains-get_or, Contains-push}
use Rattle.std.proofs.lemmas.Option.{get_or_from_slice_get, slice_get_within}
use Rattle.sql_values.specs.declared.types.SqlType.{SqlType}
use Rattle.sql_values.specs.declared.relational.JoinKind.{JoinKind}
use Rattle.col_pages.specs.Fits.{AllFit}
use Rattle.operator_core.specs.Rows.{Row}
use Rattle.operator_core.specs.Stages.{last_finished}
use Rattle.bag_laws.specs.Gather.{gather}
use Rattle.bag_laws.specs.Weights.{SameWeights}
use Rattle.bag_laws.proofs.BagLemmas.{same-from_equal}
use Rattle.join_index.specs.Keys.{IndexedRows}
use Rattle.hash_join.specs.Probing.{ProbeState}
use Rattle.hash_join.specs.contracts.probe.ProbeOpOperator.TheImpl.{ghosts as probe_ghosts}
use Rattle.plan_trees.specs.declared.tree.Pair.{Pair}
use Rattle.plan_trees.specs.TreeForms.{pair_view}
use Rattle.plan_trees.specs.TreeTypes.{types_of}
use Rattle.plan_run_laws.specs.Nets.{of_tasks}
use Rattle.plan_run_laws.specs.Stages as stage
use Rattle.driver_net_laws.specs.Pipelines.{NodeStage, at_node}
use Rattle.plan_run_laws.specs.RunPlans.{RunPlan, tree_of_run}
use Rattle.plan_run_laws.specs.RunPlans as plan
use Rattle.driver_net_laws.specs.Lookups.{IsSourceOf, rows_known}
use Rattle.driver_loop.specs.Drivers.{DriverState, IsBuiltAs}
use Rattle.driver_loop.specs.Ends.{has_ended, was_given}
use Rattle.driver_loop.specs.Turns.{note_of_stage, note_of_target}
use Rattle.driver_loop.specs.contracts.stage.StageOperator.TheImpl.{ghosts}
use Rattle.driver_loop.specs.declared.pieces.CellNote.{CellNote}
use Rattle.driver_loop.specs.declared.stage.Stage.{Stage}
use Rattle.driver_loop.specs.declared.stage.Stage.TheVariants.{Probe}
use Rattle.driver_net_laws.specs.Lanes.{Noted, first_note, other_notes}
use Rattle.driver_net_laws.specs.Pipes.{PipeState}
use Rattle.driver_net_laws.specs.Stages.{IsProbeOf}
use Rattle.driver_net_laws.specs.Cells.{LearnedFrom, cell_of}
use Rattle.driver_net_laws.specs.Made.{AreMadeFor, Behind, KnowSources, note_known, notes_known}
use Rattle.plan_layout.specs.Pipes.{BuildForm, PipeForm, SourceForm, StepForm, TargetForm, cell, driver_number}
use Rattle.net_laws.specs.RunPipes.{Alone, OfPipe, PipeIn, RunsAs}
use Rattle.driver_net_laws.specs.Nets.{AreDriversOf, IsTargetFor, NetForm, right_columns}
use Rattle.driver_net_laws.specs.Settled.{AreSettled, WasTakenApart, builds_of, looks_of}
use Rattle.driver_net_laws.specs.States.{Flow, IsFlowOf, no_pipe, pipe_of, pipe_states_of}
use Rattle.net_laws.specs.Along.{Along, BuiltTyped, bells_in}
use Rattle.net_laws.proofs.TypeLemmas.{runs_typed}

pub contains_got : {X : Type 0} (xs : List X) (i : ℕ) (x : X) → slice_get xs i ≡ Some x → Contains xs x
contains_got xs i x is = subst (Contains xs) (get_or_from_slice_get xs i x x is) (Contains-get_or xs i x (slice_get_within xs i x is))

pub contains_flat : {X Y : Type 0} (f : Y → List X) (ys : List Y) (y : Y) (x : X) → Contains ys y → Contains (f y) x → Contains (flat_map f ys) x
contains_flat f [] y x (k, lt, same) own = absurd (omega (arith, lt))
contains_flat f (z ∷ ys) y x (zero, lt, same) own = Contains-append_left (f z) (flat_map f ys) x (subst (λ w. Contains (f w) x) (sym same) own)
contains_flat f (z ∷ ys) y x (suc k, lt, same) own = Contains-append_right (f z) (flat_map f ys) x (contains_flat f ys y x (k, omega (arith, lt), same) own)

-- a stage that is made as a probe is one
record IsProbe (s : Stage) (op : ProbeState) (types : List SqlType) : Type 0 where
  raw : ProbeState
  is : s ≡ Probe raw types
  made : probe_ghosts.as_made raw ≡ op

probe_raw : (s : Stage) (op : ProbeState) (types : List SqlType) → ghosts.as_made s ≡ Probe op types → IsProbe s op types
probe_raw (Probe raw ts) op types same =
    let own : ts ≡ types = cc in
    let made : probe_ghosts.as_made raw ≡ op = cc in
    record { raw = raw; is = ap (λ (t : List SqlType). Probe raw t) own; made = made }
probe_raw s op types same = absurd cc

-- a stage that looks into no cell of a join has no note of one
no_note : (s : Stage) → cell_of (ghosts.as_made s) ≡ [] → note_known s ≡ []
no_note (Probe raw ts) apart = absurd cc
no_note s apart = refl

-- the notes of the last stage come first
notes-snoc : (before : List Stage) (last : Stage) → notes_known (before ++ last ∷ []) ≡ note_known last ++ notes_known before
notes-snoc [] last = sym (append-nil (note_known last))
notes-snoc (s ∷ before) last = ap (λ (ns : Noted). ns ++ note_known s) (notes-snoc before last) ∙ append_assoc (note_known last) (notes_known before) (note_known s)

pub notes_behind : (all before : List Stage) (last : Stage) → all ≡ before ++ last ∷ [] → cell_of (ghosts.as_made last) ≡ [] → notes_known all ≡ notes_known before
notes_behind all before last are apart = ap notes_known are ∙ notes-snoc before last ∙ ap (λ (ns : Noted). ns ++ notes_known before) (no_note last apart)

source_known : (known : Option IndexedRows) (rows : List Row) → rows_known known ≡ Some rows → (source : IndexedRows) × (known ≡ Some source) × (source.rows ≡ rows)
source_known None rows is = absurd cc
source_known (Some source) rows is = (source, refl, cc)

right_are : (pairs : List Pair) → right_columns pairs ≡ map (λ (pair : ℕ × ℕ). pair.1) (map pair_view pairs)
right_are [] = refl
right_are (pair ∷ pairs) = ap (λ (cs : List ℕ). pair.right ∷ cs) (right_are pairs)

-- what is said of the joins of one driver's pipe, and of what its notes know
module _ (Of : RunPlan → ℕ → Noted → Type 0) (layout : List PipeForm) where
  abbrev pub AlongLane : (n : ℕ) (run : RunPlan) (own w : ℕ) (source : SourceForm) (steps : List StepForm) → RunsAs layout n run own w source steps → Noted → Type 0
  AlongLane n (plan.scan id table columns types) own w source steps r notes = Unit {0}
  AlongLane n (plan.values id types list) own w source steps r notes = Unit {0}
  AlongLane n (plan.remote id output m input) own w source steps r notes = Unit {0}
  AlongLane n (plan.step id s input) own w source steps r notes = AlongLane n input own w source r.1.0 r.1.2 notes
  AlongLane n (plan.join id kind on left right) own w source steps r notes = Of right r.0 notes × AlongLane n left own w source r.4.0 r.4.2 (other_notes notes)
  AlongLane n (plan.halves id remote output m h input) own w source steps r notes = Unit {0}
  AlongLane n (plan.union id left right) own w source steps r notes = Unit {0}

-- and where it is said of each driver
module _ (Of : ℕ → RunPlan → ℕ → Noted → Type 0) (layout : List PipeForm) (n m : ℕ) where
  abbrev OfAll : RunPlan → ℕ → (ℕ → ℕ → Noted) → Type 0
  OfAll right j notes = (k d : ℕ) → k < n → d < m → Of k right j (notes k d)

  pub along_all : (run : RunPlan) (own w : ℕ) (source : SourceForm) (steps : List StepForm) (r : RunsAs layout n run own w source steps) (notes : ℕ → ℕ → Noted)
      → ((k d : ℕ) → k < n → d < m → AlongLane (Of k) layout n run own w source steps r (notes k d)) → Along OfAll layout n run own w source steps r notes
  along_all (plan.scan id table columns types) own w source steps r notes each = tt
  along_all (plan.values id types list) own w source steps r notes each = tt
  along_all (plan.remote id output m input) own w source steps r notes each = tt
  along_all (plan.step id s input) own w source steps r notes each = along_all input own w source r.1.0 r.1.2 notes each
  along_all (plan.join id kind on left right) own w source steps r notes each =
      ((λ k d in_task in_lane. (each k d in_task in_lane).0), along_all left own w source r.4.0 r.4.2 (λ k d. other_notes (notes k d)) (λ k d in_task in_lane. (each k d in_task in_lane).1))
  along_all (plan.halves id remote output m h input) own w source steps r notes each = tt
  along_all (plan.union id left right) own w source steps r notes each = tt

abbrev look_of : ProbeState → CellNote
look_of op = record { bell = op.bell; note = op.note }

-- the one driver of the pipe that builds is done in the task, and gave the rows of the source
record Built (given : List SqlType) (pairs : List Pair) (task : ℕ) (source : IndexedRows) (p : PipeState Stage) : Type 0 where
  lone : p.drivers ≡ 1
  done : p.done task 0 ≡ true
  gave : p.gave task 0 ≡ source.rows
  by : source.keys ≡ right_columns pairs
  of : source.types ≡ given

module _ (net : NetForm) (drivers : List DriverState) (of : AreDriversOf net drivers) (settled : AreSettled net drivers) (flow : Flow) (flowed : IsFlowOf net.layout drivers flow) where
  abbrev pub P : ℕ → PipeState Stage
  P = pipe_states_of net.layout drivers flow

  pub pipe_is : (own : ℕ) (pipe : PipeForm) → slice_get net.layout own ≡ Some pipe → P own ≡ pipe_of drivers flow own pipe
  pipe_is own pipe is = ap (λ (o : Option PipeForm). unwrap_or (option_map (pipe_of drivers flow own) o) no_pipe) is

  pub still : (d : DriverState) → Contains drivers d → WasTakenApart d
  still d there = All-contains WasTakenApart drivers d settled.each there

  looked : (d : DriverState) (op : ProbeState) (types : List SqlType) → Contains drivers d → Contains d.stages (Probe op types) → Contains (looks_of drivers) (look_of op)
  looked d op types there own =
      contains_flat (λ (e : DriverState). flat_map note_of_stage e.stages) drivers d (look_of op) there
      (contains_flat note_of_stage d.stages (Probe op types) (look_of op) own (Contains-push [] (look_of op)))

  built_by : (n j : ℕ) (build : BuildForm) (Is : OfPipe) (p : PipeIn net.layout n (cell build) j (Alone Is)) (task : ℕ) → task < n
      → (op : ProbeState) → Contains (looks_of drivers) (look_of op) → op.bell ≡ net.links.cells j task → (source : IndexedRows) → op.note.known ≡ Some source
      → Built (net.types j).given build.on task source (P j)
  built_by n j build Is p task lt op at rings source known =
      let lone : p.pipe.drivers ≡ 1 = p.so.0 in
      let some : 0 < p.pipe.drivers = omega (arith, lone) in
      let h = of.each j p.pipe p.is task 0 (omega (arith, lt, p.tasks)) some in
      let d = h.driver in
      let there = contains_got drivers (driver_number p.pipe task 0) d h.there in
      let b = subst (λ (t : TargetForm). IsTargetFor net j task t d.target) p.has h.is.target in
      let mine : CellNote = record { bell = b.build.bell; note = b.build.note } in
      let own = subst (λ (ns : List CellNote). Contains ns mine) (sym (ap note_of_target b.is)) (Contains-push [] mine) in
      let within = contains_flat (λ (e : DriverState). note_of_target e.target) drivers d mine there own in
      let all = All-contains (λ (look : CellNote). All (LearnedFrom look) (builds_of drivers)) (looks_of drivers) (look_of op) settled.follow at in
      let learned = All-contains (LearnedFrom (look_of op)) (builds_of drivers) mine all within (b.rings ∙ sym rings) source known in
      let built = subst (IsBuiltAs d.is_finished) b.is (still d there).built in
      let finished = built.2 source learned.0 learned.1 in
      let was = flowed.given (driver_number p.pipe task 0) d h.there in
      let rows = subst (λ t. was_given t (flow.gave (driver_number p.pipe task 0))) b.is was.0 in
      let own_pipe : Built (net.types j).given build.on task source (pipe_of drivers flow j p.pipe) = record {
        lone = lone;
        done = ap (λ (o : Option DriverState). unwrap_or (option_map (λ (e : DriverState). last_finished ghosts (has_ended e.source) e.stages) o) false) h.there ∙ (was.1.over finished.0).1;
        gave = rows ∙ ap (λ (s : IndexedRows). s.rows) (sym finished.1);
        by = ap (λ (s : IndexedRows). s.keys) finished.1 ∙ b.by;
        of = ap (λ (s : IndexedRows). s.types) finished.1 ∙ b.of;
      } in
      subst (Built (net.types j).given build.on task source) (sym (pipe_is j p.pipe p.is)) own_pipe

  source_of : (n j : ℕ) (build : BuildForm) (on : List (ℕ × ℕ)) (right : RunPlan) (p : PipeIn net.layout n (cell build) j (Alone (RunsAs net.layout n right))) → map pair_view build.on ≡ on
      → (task : ℕ) → task < n → (source : IndexedRows) → Built (net.types j).given build.on task source (P j) → BuiltTyped (P) n right j (λ k d. [])
      → IsSourceOf (map (λ (pair : ℕ × ℕ). pair.1) on) (types_of (tree_of_run right)) source
  source_of n j build on right p same task lt source built typed =
      let t = runs_typed net.layout net.types of.typed n right j p.pipe p.is p.so.1 in
      let types = built.of ∙ t.given in
      record {
        by = built.by ∙ right_are build.on ∙ ap (λ (ps : List (ℕ × ℕ)). map (λ (pair : ℕ × ℕ). pair.1) ps) same;
        of = types;
        fit = subst (λ (ts : List SqlType). AllFit ts source.rows) (sym types)
            (subst (AllFit (types_of (tree_of_run right))) built.gave (typed task 0 lt (omega (arith, built.lone))));
      }

  -- what a probe of a driver knows is the source of its join
  pub knows : (n : ℕ) (run : RunPlan) (own w : ℕ) (source : SourceForm) (steps : List StepForm) (r : RunsAs net.layout n run own w source steps) (notes : ℕ → ℕ → Noted)
      → Along (BuiltTyped P n) net.layout n run own w source steps r notes → (task : ℕ) → task < n → (d : DriverState) → Contains drivers d
      → KnowSources run (bells_in net.links task net.layout n run own w source steps r) (Contains d.stages)
  knows n (plan.scan id table columns types) own w source steps r notes typed task lt d there = tt
  knows n (plan.values id types list) own w source steps r notes typed task lt d there = tt
  knows n (plan.remote id output m input) own w source steps r notes typed task lt d there = tt
  knows n (plan.step id s input) own w source steps r notes typed task lt d there = knows n input own w source r.1.0 r.1.2 notes typed task lt d there
  knows n (plan.join id kind on left right) own w source steps r notes typed task lt d there = (
    (λ op types is rings x known.
        source_of n r.0 r.1 on right r.3 r.2.pairs task lt x
        (built_by n r.0 r.1 (RunsAs net.layout n right) r.3 task lt op (looked d op types there is) rings x known) typed.0),
    knows n left own w source r.4.0 r.4.2 (λ k e. other_notes (notes k e)) typed.1 task lt d there,
  )
  knows n (plan.halves id remote output m h input) own w source steps r notes typed task lt d there = tt
  knows n (plan.union id left right) own w source steps r notes typed task lt d there = tt

  -- where the first note of a driver in the task knows rows, the drivers of the right side are done there, and gave these
  abbrev IsFollowed : ℕ → ℕ → Noted → Type 0
  IsFollowed task j notes =
      (built : List Row) → first_note notes ≡ Some built
      → ((e : ℕ) → e < (P j).drivers → (P j).done task e ≡ true) × SameWeights (of_tasks (P j).drivers (P j).gave task) built

  abbrev pub FollowsIn : ℕ → RunPlan → ℕ → Noted → Type 0
  FollowsIn task right j notes = IsFollowed task j notes

  followed : (j task : ℕ) (pairs : List Pair) (built : List Row) (source : IndexedRows) → Built (net.types j).given pairs task source (P j) → source.rows ≡ built
      → ((e : ℕ) → e < (P j).drivers → (P j).done task e ≡ true) × SameWeights (of_tasks (P j).drivers (P j).gave task) built
  followed j task pairs built source b rows =
      let first : (e : ℕ) → e < (P j).drivers → e ≡ 0 = λ e lt. omega (arith, lt, b.lone) in (
        (λ e lt. ap ((P j).done task) (first e lt) ∙ b.done),
        same-from_equal (ap (λ (m : ℕ). gather m ((P j).gave task)) b.lone ∙ b.gave ∙ rows),
      )

  -- stages of a driver
  abbrev AreOf : DriverState → List Stage → Type 0
  AreOf d stages = (s : Stage) → Contains stages s → Contains d.stages s

  before_of : (d : DriverState) (stages before : List Stage) (last : Stage) → stages ≡ before ++ last ∷ [] → AreOf d stages → AreOf d before
  before_of d stages before last are own s at = own s (subst (λ (ss : List Stage). Contains ss s) (sym are) (Contains-append_left before (last ∷ []) s at))

  last_of : (d : DriverState) (stages before : List Stage) (last : Stage) → stages ≡ before ++ last ∷ [] → AreOf d stages → Contains d.stages last
  last_of d stages before last are own = own last (subst (λ (ss : List Stage). Contains ss last) (sym are) (Contains-push before last))

  -- a note that knows what was built, among those of a driver
  joined : (n j : ℕ) (kind : JoinKind) (build : BuildForm) (on : List (ℕ × ℕ)) (Is : OfPipe) (p : PipeIn net.layout n (cell build) j (Alone Is)) (task : ℕ) → task < n
      → (d : DriverState) → Contains drivers d → (right between types : List SqlType) (last : Stage) → Contains d.stages last
      → IsProbeOf net.links.names (net.links.cells j task) kind on right between types (ghosts.as_made last)
      → (noted : Option (List Row)) × (note_known last ≡ noted ∷ []) × IsFollowed task j (noted ∷ [])
  joined n j kind build on Is p task lt d there right between types last own is =
      let q = is.probes in
      let r = probe_raw last q.op q.types q.is in
      let at = looked d r.raw q.types there (subst (Contains d.stages) r.is own) in
      let rings = ap (λ (o : ProbeState). o.bell) r.made ∙ q.rings in (
        rows_known r.raw.note.known,
        ap note_known r.is,
        (λ built same.
            let (source, known, rows) = source_known r.raw.note.known built same in
            followed j task build.on built source (built_by n j build Is p task lt r.raw at rings source known) rows),
      )

  -- a stage that has no note stands behind the others
  behind : (n : ℕ) (input : RunPlan) (own w : ℕ) (source : SourceForm) (steps : List StepForm) (r : RunsAs net.layout n input own w source steps) (task : ℕ) (d : DriverState)
      (at : NodeStage) (stages : List Stage) (types : List SqlType)
      → (e : Behind (AreMadeFor net.links.names input (bells_in net.links task net.layout n input own w source steps r)) at stages types)
      → AlongLane (FollowsIn task) net.layout n input own w source steps r (notes_known e.before)
      → AlongLane (FollowsIn task) net.layout n input own w source steps r (notes_known stages)
  behind n input own w source steps r task d at stages types e along =
      subst (AlongLane (FollowsIn task) net.layout n input own w source steps r) (sym (notes_behind stages e.before e.last e.are e.is.apart)) along

  pub follow : (n : ℕ) (run : RunPlan) (own w : ℕ) (source : SourceForm) (steps : List StepForm) (r : RunsAs net.layout n run own w source steps) (task : ℕ) → task < n
      → (d : DriverState) → Contains drivers d → (stages : List Stage) (types : List SqlType) → AreOf d stages
      → AreMadeFor net.links.names run (bells_in net.links task net.layout n run own w source steps r) stages types
      → AlongLane (FollowsIn task) net.layout n run own w source steps r (notes_known stages)
  follow n (plan.scan id table columns kinds) own w source steps r task lt d there stages types are e = tt
  follow n (plan.values id kinds list) own w source steps r task lt d there stages types are e = tt
  follow n (plan.remote id output m input) own w source steps r task lt d there stages types are e = tt
  follow n (plan.step id s input) own w source steps r task lt d there stages types are e =
      behind n input own w source r.1.0 r.1.2 task d (at_node id (stage.does (types_of (tree_of_run input)) s)) stages types e
      (follow n input own w source r.1.0 r.1.2 task lt d there e.before e.between (before_of d stages e.before e.last e.are are) e.input)
  follow n (plan.join id kind on left right) own w source steps r task lt d there stages types are e =
      let (noted, is_note, same) = joined n r.0 kind r.1 on (RunsAs net.layout n right) r.3 task lt d there (types_of (tree_of_run right)) e.between types e.last (last_of d stages e.before e.last e.are are) e.is in
      let notes : noted ∷ notes_known e.before ≡ notes_known stages =
      sym (ap notes_known e.are ∙ notes-snoc e.before e.last ∙ ap (λ (ns : Noted). ns ++ notes_known e.before) is_note) in
      subst (AlongLane (FollowsIn task) net.layout n (plan.join id kind on left right) own w source steps r) notes
      (same, follow n left own w source r.4.0 r.4.2 task lt d there e.before e.between (before_of d stages e.before e.last e.are are) e.input)
  follow n (plan.halves id remote output m h input) own w source steps r task lt d there stages types are e = tt
  follow n (plan.union id left right) own w source steps r task lt d there stages types are e = tt
