-- The pipes of a layout run the nodes of a fragment, where those of the later fragments run theirs.
use Rattle.std.proofs.Common.{◌≡◌, ℕ, ◌+◌, ◌-◌, ◌<◌, zero, suc, List, [], ◌∷◌, ◌++◌, map, Bool, true, false, ◌⊎◌, refl, ap, sym, ◌∙◌, subst, arith, Option, Some, None}
use Rattle.std.specs.Prelude.{Result, slice_get, unwrap_or, ◌==◌, if◌then◌else◌}
use Rattle.std.specs.List.{list_any}
use Rattle.std.proofs.lemmas.Bool.{eqb-true}
use Rattle.json_paths.specs.declared.key.Key.TheVariants as key
use Rattle.sql_exprs.specs.Typing.{Path, under}
use Rattle.plan_docs.specs.declared.node.NodeStep.{NodeStep}
use Rattle.plan_docs.specs.declared.node.NodeStep.TheVariants.{Single, Partial}
use Rattle.plan_docs.specs.declared.plan.Output.{Output}
use Rattle.plan_docs.specs.declared.plan.Placement.{Placement}
use Rattle.plan_docs.specs.Nodes.{NodeForm}
use Rattle.plan_docs.specs.Nodes as node
use Rattle.plan_docs.specs.Operators as operators
use Rattle.plan_trees.specs.HalvedSteps as halved
use Rattle.plan_docs.specs.Plans.{FragmentForm}
use Rattle.plan_run_laws.specs.RunPlans.{RunPlan}
use Rattle.plan_spreads.specs.declared.spread.RowSpread.{RowSpread}
use Rattle.plan_spreads.specs.Halves.{Halved, aggregates, top_ns, limits, Meets, ReadsHalf, RootMeets, half}
use Rattle.plan_spreads.specs.Operators.{first_rows_spread}
use Rattle.plan_spreads.specs.Nodes.{operator_spread, sides_spread, spread_of}
use Rattle.plan_spreads.specs.Runs.{Part, no_part, node_run, one_over, one_with, output_view, part_read, tasks_of}
use Rattle.plan_spreads.specs.Sources.{fragment_read}
use Rattle.plan_spreads.proofs.ReadParts.{Reads, has_read, over_half}
use Rattle.plan_layout.specs.declared.pipe.Parallelism.{Parallelism}
use Rattle.plan_layout.specs.Edges.{reader_of, target_of}
use Rattle.plan_layout.specs.Layouts.{site_of}
use Rattle.plan_layout.specs.Pipes.{PipeForm, SourceForm, StepForm, TargetForm, aggregate, fragment, readers, result, side}
use Rattle.plan_layout.specs.Runs.{EndsWith, PipeAt, Runs, bare}
use Rattle.plan_layout.specs.Sides.{Site, built_for}
use Rattle.plan_layout.specs.Steps.{aggregate_step, builds, final_in, final_of, final_over, groups_rows, is_shared}
use Rattle.net_laws.specs.Readers.{IsReader}
use Rattle.net_laws.specs.RunPipes.{Alone, OfPipe, PipeIn, Takes}
use Rattle.net_laws.proofs.CoverLemmas.{Covers, Holds, Reaches, RootHolds, RootReaches, final_half, in_sum, reaching, root_whole, same_pipe}
use Rattle.net_laws.proofs.LoneLemmas.{Fine, Lone, builder_alone, fine_below, fine_left, fine_none, fine_over, fine_right, lone_before, lone_groups, lone_of}

-- a pipe that has its numbers
record Real (layout : List PipeForm) (at : ℕ) (known : PipeForm) : Type 0 where
  pipe : PipeForm
  is : slice_get layout at ≡ Some pipe
  same : bare pipe ≡ known

real : (layout : List PipeForm) (at : ℕ) (known : PipeForm) → slice_get (map bare layout) at ≡ Some known → Real layout at known
real [] at known is = absurd cc
real (pipe ∷ layout) zero known is = record { pipe = pipe; is = refl; same = cc is }
real (pipe ∷ layout) (suc at) known is = let rest = real layout at known is in record { pipe = rest.pipe; is = rest.is; same = rest.same }

same_drivers : (layout : List PipeForm) (at : ℕ) (found other known : PipeForm) → slice_get layout at ≡ Some found → slice_get layout at ≡ Some other → bare found ≡ known
    → known.drivers ≡ 1 → other.drivers ≡ 1
same_drivers layout at found other known is so same one =
    let both : found ≡ other = cc (is, so) in
    sym (ap (λ (q : PipeForm). q.drivers) both) ∙ ap (λ (q : PipeForm). q.drivers) same ∙ one

-- what is known of a fragment
pub record Good (layout : List PipeForm) (p : Parallelism) (Told : ℕ → ℕ → Type 0) (number : ℕ) (f : FragmentForm) (part : Part) : Type 0 where
  pub from : ℕ
  pub parts : List Part
  pub is : part.root ≡ node_run from parts f.root
  pub tasks : part.tasks ≡ tasks_of p.tasks f.placement
  pub output : part.output ≡ output_view f.output
  pub at : ℕ
  pub root : PipeIn layout part.tasks (target_of number f.output layout) at (RootReaches layout (Told number) part.tasks from parts f.root)

target_is : (n : ℕ) (output : Output) (layout : List PipeForm) (own : ℕ) → 0 < n → own ≡ reader_of n layout → target_of n output layout ≡ readers output own
target_is n output layout own some is = by (n == 0) refl
  where
    by : (b : Bool) → n == 0 ≡ b → (if b then result else readers output (reader_of n layout)) ≡ readers output own
    by true zero_is = let none = eqb-true n 0 zero_is in absurd (omega (arith, none, some))
    by false other = ap (readers output) (sym is)

-- what is known of the later fragments, of which `first` is the number of the first
pub record Later (layout : List PipeForm) (p : Parallelism) (fragments : List FragmentForm) (Told : ℕ → ℕ → Type 0) (first : ℕ) (later : List FragmentForm) (parts : List Part) : Type 0 where
  pub some : 0 < first
  pub there : (k : ℕ) (f : FragmentForm) → slice_get later k ≡ Some f → slice_get fragments (first + k) ≡ Some f
  pub read : (k : ℕ) (f : FragmentForm) → slice_get later k ≡ Some f → IsReader layout (first + k) (reader_of (first + k) layout)
  pub good : (k : ℕ) (f : FragmentForm) → slice_get later k ≡ Some f → Good layout p Told (first + k) f (unwrap_or (slice_get parts k) no_part)

module _ (layout : List PipeForm) (p : Parallelism) (fragments : List FragmentForm) (Told : ℕ → ℕ → Type 0) (number : ℕ) (own_part : FragmentForm) (first : ℕ) (later : List FragmentForm) (parts : List Part)
    (known : Later layout p fragments Told first later parts) where
  abbrev s : Site
  s = site_of p fragments number own_part

  abbrev n : ℕ
  n = s.tasks

  abbrev bares : List PipeForm
  bares = map bare layout

  abbrev placement : Placement
  placement = own_part.placement

  abbrev spread : Path → NodeForm → Result RowSpread Path
  spread path x = spread_of placement first later path x

  -- the pipe that a node stands in
  record Own (own w : ℕ) (source : SourceForm) (steps : List StepForm) : Type 0 where
    pipe : PipeForm
    is : slice_get layout own ≡ Some pipe
    takes : pipe.source ≡ source
    lone : Lone placement w source steps

  own_before : (own w : ℕ) (source : SourceForm) (steps rest last : List StepForm) → steps ≡ rest ++ last → Own own w source steps → Own own w source rest
  own_before own w source steps rest last are o = record {
    pipe = o.pipe;
    is = o.is;
    takes = o.takes;
    lone = lone_before placement w source steps rest last are o.lone;
  }

  -- the fragment that a source reads
  record Taken (operator : Option Halved) (own : ℕ) (source : SourceForm) (number_read : ℕ) : Type 0 where
    f : FragmentForm
    there : slice_get fragments number_read ≡ Some f
    is : half f.root ≡ operator
    from : ℕ
    below : List Part
    part_is : (part_read first parts number_read).root ≡ node_run from below f.root
    takes : Takes layout own source (part_read first parts number_read).output (part_read first parts number_read).tasks
        (RootReaches layout (Told number_read) (part_read first parts number_read).tasks from below f.root)

  taken : (operator : Option Halved) (own w : ℕ) (source : SourceForm) (steps : List StepForm) (other : ℕ) → Own own w source steps → source ≡ fragment other
      → Reads first later operator other → Taken operator own source other
  taken operator own w source steps other o is r =
      let k = other - first in
      let place : first + k ≡ other = omega (arith, r.after) in
      let good = known.good k r.f r.at in
      let reader = known.read k r.f r.at in
      let here : own ≡ reader_of (first + k) layout = reader.only own o.pipe o.is (o.takes ∙ is ∙ ap fragment (sym place)) in
      let target = target_is (first + k) r.f.output layout own (omega (arith, known.some)) here in
      let part = part_read first parts other in
      record {
        f = r.f;
        there = ap (slice_get fragments) (sym place) ∙ known.there k r.f r.at;
        is = r.is;
        from = good.from;
        below = good.parts;
        part_is = good.is;
        takes = record {
          number = other;
          is = is;
          form = r.f.output;
          sent = sym good.output;
          at = good.at;
          root = subst (λ (i : ℕ). PipeIn layout part.tasks (readers r.f.output own) good.at (RootReaches layout (Told i) part.tasks good.from good.parts r.f.root)) place
              (subst (λ (t : TargetForm). PipeIn layout part.tasks t good.at (RootReaches layout (Told (first + k)) part.tasks good.from good.parts r.f.root)) target good.root);
        };
      }

  -- the node runs in the pipe, with all that the fragment has below it
  abbrev NodeRuns : (x : NodeForm) (own w : ℕ) (source : SourceForm) (steps : List StepForm) → Runs bares s own x source steps → Type 0
  NodeRuns x own w source steps r = Covers layout (λ place. Holds bares s Told place own x source steps r) n (node_run first parts x) own w source steps

  source_runs : (id other own w : ℕ) (source : SourceForm) (steps : List StepForm) → Own own w source steps → Reads first later None other → source ≡ fragment other
      → steps ≡ [] → Covers layout (Told other) n (node_run first parts (node.remote id other)) own w source steps
  source_runs id other own w source steps o r is none =
      let t = taken None own w source steps other o is r in
      let part = part_read first parts other in
      let target = readers t.takes.form own in
      let whole = same_pipe layout part.tasks target t.takes.at (RootReaches layout (Told other) part.tasks t.from t.below t.f.root)
      (Reaches layout (Told other) part.tasks (node_run t.from t.below t.f.root)) (root_whole layout (Told other) part.tasks t.from t.below t.f.root t.is) t.takes.root in
      let root = subst (λ (r : RunPlan). PipeIn layout part.tasks target t.takes.at (Reaches layout (Told other) part.tasks r)) (sym t.part_is) whole in (
        (
          none,
          record {
            number = t.takes.number;
            is = t.takes.is;
            form = t.takes.form;
            sent = t.takes.sent;
            at = t.takes.at;
            root = record { pipe = root.pipe; is = root.is; tasks = root.tasks; has = root.has; so = root.so.0 };
          },
        ),
        root.so.1,
      )

  -- a pipe that begins at a node
  pipe_runs : (Below : SourceForm → List StepForm → Type 0) (Is : OfPipe) (target : TargetForm) (at : ℕ) (known_at : PipeAt bares s target at Below)
      → ((w : ℕ) → Own at w known_at.pipe.source known_at.pipe.steps → Is at w known_at.pipe.source known_at.pipe.steps) → PipeIn layout n target at Is
  pipe_runs Below Is target at known_at runs =
      let r = real layout at known_at.pipe known_at.is in
      let pipe = r.pipe in
      let source : known_at.pipe.source ≡ pipe.source = sym (ap (λ (q : PipeForm). q.source) r.same) in
      let tasks : pipe.tasks ≡ known_at.pipe.tasks = ap (λ (q : PipeForm). q.tasks) r.same in
      let has : pipe.target ≡ known_at.pipe.target = ap (λ (q : PipeForm). q.target) r.same in
      let lone = lone_of placement p.drivers known_at.pipe.drivers known_at.pipe.source known_at.pipe.steps target known_at.drivers in
      let o : Own at known_at.pipe.drivers known_at.pipe.source known_at.pipe.steps = record { pipe = pipe; is = r.is; takes = sym source; lone = lone } in
      record {
        pipe = pipe;
        is = r.is;
        tasks = tasks ∙ known_at.tasks;
        has = has ∙ known_at.has;
        so = subst (λ (q : PipeForm). Is at q.drivers q.source q.steps) (sym r.same) (runs known_at.pipe.drivers o);
      }

  -- what builds has one driver
  built_runs : (Below : SourceForm → List StepForm → Type 0) (Is : OfPipe) (target : TargetForm) (at : ℕ) → builds target ≡ true → (known_at : PipeAt bares s target at Below)
      → ((w : ℕ) → Own at w known_at.pipe.source known_at.pipe.steps → Is at w known_at.pipe.source known_at.pipe.steps) → PipeIn layout n target at (Alone Is)
  built_runs Below Is target at building known_at runs =
      let pipe = pipe_runs Below Is target at known_at runs in
      let r = real layout at known_at.pipe known_at.is in
      let one = builder_alone placement p.drivers known_at.pipe.drivers known_at.pipe.source known_at.pipe.steps target known_at.drivers building in
      record {
        pipe = pipe.pipe;
        is = pipe.is;
        tasks = pipe.tasks;
        has = pipe.has;
        so = (same_drivers layout at r.pipe pipe.pipe known_at.pipe r.is pipe.is r.same one, pipe.so);
      }

  -- a FINAL node
  over_told : (id number_read : ℕ) (x : NodeForm) → node.remote id number_read ≡ x → (own : ℕ) (source : SourceForm) (steps : List StepForm)
      (r : Runs bares s own x source steps) (place : ℕ) → Holds bares s Told place own x source steps r → Told number_read place
  over_told id number_read (node.remote other m) is own source steps r place h =
      let same : m ≡ number_read = cc is in
      subst (λ (k : ℕ). Told k place) same h
  over_told id number_read x is own source steps r place h = absurd cc

  final_runs : (operator : Halved) (id : ℕ) (input : NodeForm) (own w : ℕ) (source : SourceForm) (steps : List StepForm) → ReadsHalf operator first later input
      → Own own w source steps → (ends : EndsWith (Runs bares s own input source) (final_over fragments id input) steps)
      → ((operator ≡ aggregates → list_any groups_rows steps ≡ true) → w ≡ 1)
      → Covers layout (λ place. Holds bares s Told place own input source ends.0 ends.2) n (one_with id (node_run first parts input)) own w source steps
  final_runs operator id input own w source steps m o ends alone =
      let v = over_half first later operator input m in
      let Of : ℕ → Type 0 = Told v.fragment in
      let read : EndsWith (Runs bares s own (node.remote v.source v.fragment) source) (final_over fragments id (node.remote v.source v.fragment)) steps =
      subst (λ (x : NodeForm). EndsWith (Runs bares s own x source) (final_over fragments id x) steps) (sym v.is) ends in
      let t = taken (Some operator) own w source steps v.fragment o read.2.0 v.reads in
      let before : read.0 ++ final_over fragments id (node.remote v.source v.fragment) ≡ final_over fragments id (node.remote v.source v.fragment) =
      ap (λ (rest : List StepForm). rest ++ final_over fragments id (node.remote v.source v.fragment)) read.2.1 in
      let final_is : final_over fragments id (node.remote v.source v.fragment) ≡ final_of id t.f.root = ap (λ (f : Option FragmentForm). final_in id f) t.there in
      let part = part_read first parts v.fragment in
      let runs = final_half layout Of n part.tasks t.from t.below id v.source part.output own w source steps operator t.f.root t.is (read.1 ∙ before ∙ final_is) alone t.takes in
      let covers = subst (λ (x : NodeForm). Covers layout Of n (one_with id (node_run first parts x)) own w source steps) v.is
      (subst (λ (r : RunPlan). Covers layout Of n (one_over id v.source part.output part.tasks r) own w source steps) (sym t.part_is) runs) in
      (covers.0, λ place h. covers.1 place (over_told v.source v.fragment input v.is own source ends.0 ends.2 place h))

  node_runs : (x : NodeForm) (path : Path) (own w : ℕ) (source : SourceForm) (steps : List StepForm) → Meets first later x → Fine placement (spread path x)
      → Own own w source steps → (r : Runs bares s own x source steps) → NodeRuns x own w source steps r
  node_runs (node.scan id place columns types) path own w source steps m fine o r =
      let own_pipe = real layout own r.2.pipe r.2.is in
      ((r.0, r.1, record { pipe = own_pipe.pipe; is = own_pipe.is; scan = ap (λ (q : PipeForm). q.scan) own_pipe.same ∙ r.2.scan }), λ place none. none)
  node_runs (node.values id types list) path own w source steps m fine o r = ((o.lone.unshared (ap is_shared r.0), r.0, r.1), λ place none. none)
  node_runs (node.remote id other) path own w source steps m fine o r =
      source_runs id other own w source steps o (has_read first later None other (fragment_read first later other) refl m) r.0 r.1
  node_runs (node.filter id predicate input) path own w source steps m fine o r =
      let below = node_runs input (under path key.Input) own w source r.0 m (fine_below placement (spread (under path key.Input) input) fine)
      (own_before own w source steps r.0 _ r.1 o) r.2 in
      ((tt, (r.0, r.1, below.0)), below.1)
  node_runs (node.project id columns input) path own w source steps m fine o r =
      let below = node_runs input (under path key.Input) own w source r.0 m
      (fine_over placement path (spread (under path key.Input) input) (operator_spread placement first later (operators.project columns) input) fine)
      (own_before own w source steps r.0 _ r.1 o) r.2 in
      ((tt, (r.0, r.1, below.0)), below.1)
  node_runs (node.join id kind on filters left right) path own w source steps m fine o r =
      let lefts = fine_left placement path (spread (under path key.Left) left) (spread (under path key.Right) right) (sides_spread (node.join id kind on filters left right)) fine in
      let rights = fine_right placement path (spread (under path key.Left) left) (spread (under path key.Right) right) (sides_spread (node.join id kind on filters left right)) fine in
      let beside = r.1.pipe in
      let Of : ℕ → Type 0 = λ place. Holds bares s Told place r.0 right beside.source beside.steps r.1.below in
      let built = built_runs (Runs bares s r.0 right) (Covers layout Of n (node_run first parts right)) (built_for id on filters) r.0 refl r.1
      (λ w2 o2. node_runs right (under path key.Right) r.0 w2 beside.source beside.steps m.1 rights o2 r.1.below) in
      let below = node_runs left (under path key.Left) own w source r.2.0 m.0 lefts (own_before own w source steps r.2.0 _ r.2.1 o) r.2.2 in (
        (
          r.0,
          record { join = id; on = on; filters = filters },
          record { join = refl; pairs = refl },
          record { pipe = built.pipe; is = built.is; tasks = built.tasks; has = built.has; so = (built.so.0, built.so.1.0) },
          (r.2.0, r.2.1, below.0),
        ),
        (λ place h. in_sum (in_sum (λ same. same) (built.so.1.1 place)) (below.1 place) h),
      )
  node_runs (node.aggregate id step keys calls input) path own w source steps m fine o r =
      let single : steps ≡ r.0 ++ aggregate id keys calls ∷ [] = r.1 ∙ ap (λ (h : NodeStep). r.0 ++ aggregate_step id h keys calls ∷ []) m.0 in
      let below = node_runs input (under path key.Input) own w source r.0 m.1
      (fine_over placement path (spread (under path key.Input) input) (operator_spread placement first later (operators.part step (halved.aggregate keys calls)) input) fine)
      (own_before own w source steps r.0 _ r.1 o) r.2 in
      ((lone_groups placement w source steps r.0 (aggregate id keys calls ∷ []) single refl o.lone, (r.0, single, below.0)), below.1)
  node_runs (node.aggregate_final id input) path own w source steps m fine o r =
      final_runs aggregates id input own w source steps m o r (λ groups. o.lone.groups (groups refl))
  node_runs (node.sort id keys input) path own w source steps m fine o r =
      let alone = o.lone.single (fine_none placement path (spread (under path key.Input) input) (operator_spread placement first later (operators.sort keys) input) (λ t. refl) fine) in
      let below = node_runs input (under path key.Input) own w source r.0 m
      (fine_over placement path (spread (under path key.Input) input) (operator_spread placement first later (operators.sort keys) input) fine)
      (own_before own w source steps r.0 _ r.1 o) r.2 in
      ((alone, (r.0, r.1, below.0)), below.1)
  node_runs (node.top_n id step count keys input) path own w source steps m fine o r =
      let alone = o.lone.single (fine_none placement path (spread (under path key.Input) input) (operator_spread placement first later (operators.part step (halved.topn count keys)) input)
      (λ t. ap (λ (h : NodeStep). first_rows_spread h t) m.0) fine) in
      let below = node_runs input (under path key.Input) own w source r.0 m.1
      (fine_over placement path (spread (under path key.Input) input) (operator_spread placement first later (operators.part step (halved.topn count keys)) input) fine)
      (own_before own w source steps r.0 _ r.1 o) r.2 in
      ((alone, (r.0, r.1, below.0)), below.1)
  node_runs (node.top_n_final id input) path own w source steps m fine o r =
      let alone = o.lone.single (fine_none placement path (spread (under path key.Input) input) (operator_spread placement first later (operators.final halved.top_ns) input) (λ t. refl) fine) in
      final_runs top_ns id input own w source steps m o r (λ groups. alone)
  node_runs (node.limit id step count input) path own w source steps m fine o r =
      let alone = o.lone.single (fine_none placement path (spread (under path key.Input) input) (operator_spread placement first later (operators.part step (halved.limit count)) input)
      (λ t. ap (λ (h : NodeStep). first_rows_spread h t) m.0) fine) in
      let below = node_runs input (under path key.Input) own w source r.0 m.1
      (fine_over placement path (spread (under path key.Input) input) (operator_spread placement first later (operators.part step (halved.limit count)) input) fine)
      (own_before own w source steps r.0 _ r.1 o) r.2 in
      ((alone, (r.0, r.1, below.0)), below.1)
  node_runs (node.limit_final id input) path own w source steps m fine o r =
      let alone = o.lone.single (fine_none placement path (spread (under path key.Input) input) (operator_spread placement first later (operators.final halved.limits) input) (λ t. refl) fine) in
      final_runs limits id input own w source steps m o r (λ groups. alone)
  node_runs (node.union id left right) path own w source steps m fine o r =
      let lefts = fine_left placement path (spread (under path key.Left) left) (spread (under path key.Right) right) (sides_spread (node.union id left right)) fine in
      let rights = fine_right placement path (spread (under path key.Left) left) (spread (under path key.Right) right) (sides_spread (node.union id left right)) fine in
      let i = r.2.0 in
      let j = r.3.0 in
      let one = r.2.1.pipe in
      let two = r.3.1.pipe in
      let OfLeft : ℕ → Type 0 = λ place. Holds bares s Told place i left one.source one.steps r.2.1.below in
      let OfRight : ℕ → Type 0 = λ place. Holds bares s Told place j right two.source two.steps r.3.1.below in
      let first_side = pipe_runs (Runs bares s i left) (Covers layout OfLeft n (node_run first parts left)) (side own) i r.2.1
      (λ w2 o2. node_runs left (under path key.Left) i w2 one.source one.steps m.0 lefts o2 r.2.1.below) in
      let second_side = pipe_runs (Runs bares s j right) (Covers layout OfRight n (node_run first parts right)) (side own) j r.3.1
      (λ w2 o2. node_runs right (under path key.Right) j w2 two.source two.steps m.1 rights o2 r.3.1.below) in (
        (
          o.lone.unshared (ap is_shared r.0),
          r.0,
          r.1,
          (i, record { pipe = first_side.pipe; is = first_side.is; tasks = first_side.tasks; has = first_side.has; so = first_side.so.0 }),
          (j, record { pipe = second_side.pipe; is = second_side.is; tasks = second_side.tasks; has = second_side.has; so = second_side.so.0 }),
          r.4,
        ),
        (λ place h. in_sum (in_sum (λ same. same) (first_side.so.1 place)) (in_sum (λ same. same) (second_side.so.1 place)) h),
      )

  -- the root of the fragment
  single_runs : (x : NodeForm) (path : Path) (own w : ℕ) (source : SourceForm) (steps : List StepForm) → Meets first later x → Fine placement (spread path x)
      → Own own w source steps → (r : Runs bares s own x source steps)
      → ((place : ℕ) → Told number place → (place ≡ own) ⊎ Holds bares s Told place own x source steps r)
      → Reaches layout (Told number) n (node_run first parts x) own w source steps
  single_runs x path own w source steps m fine o r told =
      reaching layout (Told number) (λ place. Holds bares s Told place own x source steps r) n (node_run first parts x) own w source steps told
      (node_runs x path own w source steps m fine o r)

  root_runs : (x : NodeForm) (path : Path) (own w : ℕ) (source : SourceForm) (steps : List StepForm) → RootMeets first later x → Fine placement (spread path x)
      → Own own w source steps → RootHolds bares s Told number own x source steps → RootReaches layout (Told number) n first parts x own w source steps
  root_runs (node.aggregate id Partial keys calls input) path own w source steps m fine o (r, told) =
      let below = node_runs input (under path key.Input) own w source r.0 m
      (fine_over placement path (spread (under path key.Input) input) (operator_spread placement first later (operators.part Partial (halved.aggregate keys calls)) input) fine)
      (own_before own w source steps r.0 _ r.1 o) r.2 in
      (id, (r.0, r.1, reaching layout (Told number) (λ place. Holds bares s Told place own input source r.0 r.2) n (node_run first parts input) own w source r.0 told below))
  root_runs (node.aggregate id Single keys calls input) path own w source steps m fine o (r, told) =
      single_runs (node.aggregate id Single keys calls input) path own w source steps (refl, m) fine o r told
  root_runs (node.top_n id Partial count keys input) path own w source steps m fine o (r, told) =
      let below = node_runs input (under path key.Input) own w source r.0 m
      (fine_over placement path (spread (under path key.Input) input) (operator_spread placement first later (operators.part Partial (halved.topn count keys)) input) fine)
      (own_before own w source steps r.0 _ r.1 o) r.2 in
      (id, (r.0, r.1, reaching layout (Told number) (λ place. Holds bares s Told place own input source r.0 r.2) n (node_run first parts input) own w source r.0 told below))
  root_runs (node.top_n id Single count keys input) path own w source steps m fine o (r, told) =
      single_runs (node.top_n id Single count keys input) path own w source steps (refl, m) fine o r told
  root_runs (node.limit id Partial count input) path own w source steps m fine o (r, told) =
      let below = node_runs input (under path key.Input) own w source r.0 m
      (fine_over placement path (spread (under path key.Input) input) (operator_spread placement first later (operators.part Partial (halved.limit count)) input) fine)
      (own_before own w source steps r.0 _ r.1 o) r.2 in
      (id, (r.0, r.1, reaching layout (Told number) (λ place. Holds bares s Told place own input source r.0 r.2) n (node_run first parts input) own w source r.0 told below))
  root_runs (node.limit id Single count input) path own w source steps m fine o (r, told) =
      single_runs (node.limit id Single count input) path own w source steps (refl, m) fine o r told
  root_runs x path own w source steps m fine o (r, told) = single_runs x path own w source steps m fine o r told

  pub fragment_runs : (path : Path) (target : TargetForm) (at : ℕ) → RootMeets first later own_part.root → Fine placement (spread path own_part.root)
      → PipeAt bares s target at (RootHolds bares s Told number at own_part.root) → PipeIn layout n target at (RootReaches layout (Told number) n first parts own_part.root)
  fragment_runs path target at m fine known_at =
      pipe_runs (RootHolds bares s Told number at own_part.root) (RootReaches layout (Told number) n first parts own_part.root) target at known_at
      (λ w o. root_runs own_part.root path at w known_at.pipe.source known_at.pipe.steps m fine o known_at.below)
