-- The pipes of a layout that runs a plan, one below the other, stand as a net of pipes.
use Rattle.std.proofs.Common.{◌≡◌, ◌⊎◌, inl, inr, ℕ, ◌<◌, List, [], ◌++◌, None, Some, true, refl, ap, sym, subst, ◌∙◌, arith}
use Rattle.std.specs.Prelude.{IsTrue, slice_get}
use Rattle.std.proofs.lemmas.Bool.{eqb-true}
use Rattle.sql_values.specs.declared.types.SqlType.{SqlType}
use Rattle.col_pages.specs.Fits.{AllFit}
use Rattle.operator_core.specs.Calls.{IsLawful}
use Rattle.operator_core.specs.Rows.{Row}
use Rattle.bag_laws.specs.Gather.{gather}
use Rattle.std.proofs.lemmas.List.Elements.{All-append}
use Rattle.sql_values.specs.ColumnRows.{fits_row}
use Rattle.plan_docs.specs.declared.plan.Output.{Output}
use Rattle.plan_trees.specs.Allowed.{scanned, width_of}
use Rattle.plan_trees.specs.TreeTypes.{types_of}
use Rattle.column_origins.specs.Origins.{left_column}
use Rattle.plan_trees.specs.Steps.{StepForm as StepOf}
use Rattle.plan_run_laws.specs.Nets.{IsAlone, of_tasks}
use Rattle.plan_run_laws.specs.Stages.{MayHave}
use Rattle.plan_run_laws.specs.RunPlans.{RunPlan, tree_of_run}
use Rattle.plan_run_laws.specs.RunPlans as plan
use Rattle.plan_run_laws.specs.Runs.{sent}
use Rattle.plan_run_laws.specs.Stops.{AllSet, PassedSoFar, TookOf}
use Rattle.tree_evaluator.specs.Fits.{FitsTables}
use Rattle.driver_net_laws.specs.Pipelines.{at_node}
use Rattle.driver_loop.specs.Drivers.{DriverState}
use Rattle.driver_loop.specs.contracts.stage.StageOperator.TheImpl.{ghosts}
use Rattle.driver_loop.specs.declared.stage.Stage.{Stage}
use Rattle.driver_net_laws.specs.Lanes.{Noted, other_notes}
use Rattle.driver_net_laws.specs.Pipes.{GaveTyped, IsHalfPipeOf, PipeState, TookTyped, stopped}
use Rattle.lost_row_laws.specs.Sieves.{Sieve, over_input, under}
use Rattle.sieve_laws.specs.ComingDown.{ComeDown}
use Rattle.sieve_laws.specs.LosingPipes.{StandsLosing}
use Rattle.plan_spreads.specs.Runs.{output_view}
use Rattle.plan_layout.specs.Edges.{reads_fragment}
use Rattle.plan_layout.specs.Pipes.{PipeForm, SourceForm, StepForm, TargetForm}
use Rattle.plan_layout.specs.Pipes as form
use Rattle.net_laws.specs.Givers.{HasSource, HasTarget}
use Rattle.net_laws.specs.Reached.{is_fetching}
use Rattle.net_laws.specs.RunPipes.{Into, OfPipe, PipeIn, RunsAs, Takes}
use Rattle.driver_net_laws.specs.Nets.{AreDriversOf, NetForm, front_stages}
use Rattle.driver_net_laws.specs.Settled.{AreSettled}
use Rattle.driver_net_laws.specs.States.{Flow, IsFlowOf, pipe_states_of, rows_taken_by, sources_ended}
use Rattle.driver_net_laws.specs.Types.{gives_to}
use Rattle.net_laws.specs.Along.{Along, Follows}
use Rattle.plan_run_laws.specs.HalvedSteps.{HalvedForm}
use Rattle.net_laws.specs.Halves.{half_stage, half_step, half_types}
use Rattle.net_laws.proofs.LaneLemmas.{follows, half_follows, halves, halves_give, lanes, lanes_give}
use Rattle.net_laws.specs.Giving.{AreSides, IsGiver, IsPlainlyFetched, IsRoot}
use Rattle.net_laws.specs.Takes.{AreDoneIn, TakesRoot, TakesRows, TakesSides, TakesTable}
use Rattle.net_laws.specs.Sifted.{AreSiftedBy, AreSifting, IsSifted, IsSure}
use Rattle.net_laws.specs.Throughout.{Throughout}
use Rattle.net_laws.proofs.DriverLemmas.{all_known, pipe_at}
use Rattle.net_laws.proofs.SiftLemmas.{scan_stands, scan_typed}
use Rattle.net_laws.specs.Standing.{IsStanding, StandsOn}
use Rattle.net_laws.specs.Tidy.{IsOwnScan, IsTidy}
use Rattle.net_laws.proofs.FitLemmas.{gathered_fit, one_fits, sent_fits, took_fits}

-- what is known of the sources of all pipes
pub record Passes (net : NetForm) (drivers : List DriverState) (flow : Flow) : Type 0 where
  pub tables : (at : ℕ) (pipe : PipeForm) → slice_get net.layout at ≡ Some pipe → (place : ℕ) (columns : List ℕ) (kinds : List SqlType) → pipe.source ≡ form.table place columns kinds
      → TakesTable net.tables pipe.tasks pipe.drivers (rows_taken_by drivers pipe) (sources_ended drivers pipe) place columns
  pub rows : (at : ℕ) (pipe : PipeForm) → slice_get net.layout at ≡ Some pipe → (kinds : List SqlType) (list : List Row) → pipe.source ≡ form.rows kinds list → pipe.scan ≡ None → IsAlone pipe.drivers
      → TakesRows pipe.tasks (pipe_states_of net.layout drivers flow at) list
  pub sides : (at : ℕ) (pipe : PipeForm) → slice_get net.layout at ≡ Some pipe → pipe.source ≡ form.sides → pipe.scan ≡ None → IsAlone pipe.drivers → (i j : ℕ) → AreSides net.layout pipe.tasks at i j
      → TakesSides pipe.tasks (pipe_states_of net.layout drivers flow at) (pipe_states_of net.layout drivers flow i) (pipe_states_of net.layout drivers flow j)
  pub roots : (at : ℕ) (pipe : PipeForm) → slice_get net.layout at ≡ Some pipe → (number : ℕ) → pipe.source ≡ form.fragment number → pipe.scan ≡ None
      → (output : Output) (m j : ℕ) → IsRoot net.layout output m at j → IsPlainlyFetched net.layout at pipe.tasks → (run : RunPlan)
      → TakesRoot pipe.tasks (pipe_states_of net.layout drivers flow at) (output_view output) m run (pipe_states_of net.layout drivers flow j)

either : {A B C D : Type 0} → (A → C) → (B → D) → A ⊎ B → C ⊎ D
either f g (inl a) = inl (f a)
either f g (inr b) = inr (g b)

pub or_below : {A B C : Type 0} → (B → C) → A ⊎ B → A ⊎ C
or_below f (inl a) = inl a
or_below f (inr b) = inr (f b)

-- the pipe at a place, in so many tasks and with so many drivers, takes from this source
pub record IsIn (layout : List PipeForm) (n own w : ℕ) (source : SourceForm) : Type 0 where
  pub pipe : PipeForm
  pub is : slice_get layout own ≡ Some pipe
  pub tasks : pipe.tasks ≡ n
  pub drivers : pipe.drivers ≡ w
  pub takes : pipe.source ≡ source

pub in_it : (layout : List PipeForm) (n own : ℕ) (pipe : PipeForm) → slice_get layout own ≡ Some pipe → pipe.tasks ≡ n → IsIn layout n own pipe.drivers pipe.source
in_it layout n own pipe is tasks = record { pipe = pipe; is = is; tasks = tasks; drivers = refl; takes = refl }

giver : (layout : List PipeForm) (n : ℕ) (target : TargetForm) (at : ℕ) (Is : OfPipe) → PipeIn layout n target at Is → IsGiver layout n target at
giver layout n target at Is p = record { pipe = p.pipe; is = p.is; tasks = p.tasks; has = p.has }

module _ (layout : List PipeForm) (tidy : IsTidy layout) where
  targets : (place : ℕ) (pipe : PipeForm) → slice_get layout place ≡ Some pipe → (target : TargetForm) → pipe.target ≡ target → HasTarget layout place target
  targets place pipe is target same = record { pipe = pipe; is = is; gives = same }

  -- what gives to a pipe that takes another source than the sides of a union is no side
  no_side : (own : ℕ) (pipe : PipeForm) → slice_get layout own ≡ Some pipe → (number : ℕ) → pipe.source ≡ form.fragment number → HasSource layout own form.sides → ⊥
  no_side own pipe is number reads s =
      let same : s.pipe ≡ pipe = cc (is, s.is) in
      let both : form.sides ≡ form.fragment number = sym s.takes ∙ ap (λ (p : PipeForm). p.source) same ∙ reads in
      absurd cc

  no_root : (own : ℕ) (pipe : PipeForm) → slice_get layout own ≡ Some pipe → pipe.source ≡ form.sides → (number : ℕ) → HasSource layout own (form.fragment number) → ⊥
  no_root own pipe is reads number s =
      let same : s.pipe ≡ pipe = cc (is, s.is) in
      let both : form.fragment number ≡ form.sides = sym s.takes ∙ ap (λ (p : PipeForm). p.source) same ∙ reads in
      absurd cc

  only_root : (own j : ℕ) (output : Output) → HasTarget layout j (form.readers output own) → (HasSource layout own form.sides → ⊥)
      → (place : ℕ) (target : TargetForm) → HasTarget layout place target → gives_to own target ≡ true → place ≡ j
  only_root own j output root none place form.result t gives = absurd cc
  only_root own j output root none place (form.cell on) t gives = absurd cc
  only_root own j output root none place (form.side at) t gives =
      absurd (none (tidy.unions.union own place (subst (λ (i : ℕ). HasTarget layout place (form.side i)) (eqb-true at own gives) t)))
  only_root own j output root none place (form.readers other at) t gives =
      tidy.readers.one own place j other output (subst (λ (i : ℕ). HasTarget layout place (form.readers other i)) (eqb-true at own gives) t) root
  only_root own j output root none place (form.takers at) t gives = absurd cc

  only_sides : (own i j : ℕ) → HasTarget layout i (form.side own) → HasTarget layout j (form.side own) → i < j → ((number : ℕ) → HasSource layout own (form.fragment number) → ⊥)
      → (place : ℕ) (target : TargetForm) → HasTarget layout place target → gives_to own target ≡ true → (place ≡ i) ⊎ (place ≡ j)
  only_sides own i j left right less none place form.result t gives = absurd cc
  only_sides own i j left right less none place (form.cell on) t gives = absurd cc
  only_sides own i j left right less none place (form.side at) t gives =
      tidy.unions.two own i j place less left right (subst (λ (k : ℕ). HasTarget layout place (form.side k)) (eqb-true at own gives) t)
  only_sides own i j left right less none place (form.readers other at) t gives =
      let r = tidy.readers.reader own place other (subst (λ (k : ℕ). HasTarget layout place (form.readers other k)) (eqb-true at own gives) t) in
      absurd (none r.0 r.1)
  only_sides own i j left right less none place (form.takers at) t gives = absurd cc

  is_root : (n own w : ℕ) (source : SourceForm) (output : plan.Output) (m : ℕ) (Is : OfPipe) → IsIn layout n own w source → (t : Takes layout own source output m Is)
      → IsRoot layout t.form m own t.at
  is_root n own w source output m Is o t = record {
    root = giver layout m (form.readers t.form own) t.at Is t.root;
    only = λ place pipe is gives.
        only_root own t.at t.form (targets t.at t.root.pipe t.root.is (form.readers t.form own) t.root.has) (no_side own o.pipe o.is t.number (o.takes ∙ t.is))
        place pipe.target (targets place pipe is pipe.target refl) gives;
  }

  are_sides : (n own i j : ℕ) (pipe : PipeForm) → slice_get layout own ≡ Some pipe → pipe.source ≡ form.sides → IsGiver layout n (form.side own) i → IsGiver layout n (form.side own) j
      → i < j → AreSides layout n own i j
  are_sides n own i j pipe is reads left right less = record {
    left = left;
    right = right;
    apart = λ same. omega (arith, less, same);
    only = λ place other there gives.
        only_sides own i j (targets i left.pipe left.is (form.side own) left.has) (targets j right.pipe right.is (form.side own) right.has) less (no_root own pipe is reads)
        place other.target (targets place other there other.target refl) gives;
  }

  fetched : (own : ℕ) (pipe : PipeForm) → slice_get layout own ≡ Some pipe → (number : ℕ) → pipe.source ≡ form.fragment number → IsPlainlyFetched layout own pipe.tasks
  fetched own pipe is number reads =
      let f = tidy.fetched own pipe is (ap reads_fragment reads) in
      record {
        fetched = f;
        plain = tidy.plain f.place f.pipe f.is (ap is_fetching f.target);
        unread = subst (λ (s : SourceForm). IsOwnScan s f.pipe.scan) f.source (tidy.scans f.place f.pipe f.is);
      }

-- what a pipe took, task by task, of rows of some types
task_typed : (types : List SqlType) (n : ℕ) (p : PipeState Stage) (put : ℕ → List Row) (Done : ℕ → Type 0)
    → ((k : ℕ) → k < n → TookOf p.drivers (p.took k) (p.ended k) (put k) (Done k)) → ((k : ℕ) → k < n → AllFit types (put k)) → TookTyped types n p
task_typed types n p put Done took fit k d in_task in_lane =
    one_fits types p.drivers (p.took k)
    (took_fits types (put k) (gather p.drivers (p.took k)) ((e : ℕ) → e < p.drivers → p.ended k e ≡ true) (Done k) (took k in_task) (fit k in_task)) d in_lane

-- all rows that a pipe gave, and those that it gave in a task
task_fits : (types : List SqlType) (n : ℕ) (p : PipeState Stage) → GaveTyped types n p → (k : ℕ) → k < n → AllFit types (of_tasks p.drivers p.gave k)
task_fits types n p typed k lt = gathered_fit types p.drivers (p.gave k) (λ d in_lane. typed k d lt in_lane)

all_fit : (types : List SqlType) (n : ℕ) (p : PipeState Stage) → GaveTyped types n p → AllFit types (gather n (of_tasks p.drivers p.gave))
all_fit types n p typed = gathered_fit types n (of_tasks p.drivers p.gave) (task_fits types n p typed)

module _ (net : NetForm) (drivers : List DriverState) (of : AreDriversOf net drivers) (settled : AreSettled net drivers) (flow : Flow) (flowed : IsFlowOf net.layout drivers flow)
    (laws : IsLawful ghosts) (tidy : IsTidy net.layout) (passes : Passes net drivers flow) (of_join due : ℕ → List Sieve) where
  abbrev P : ℕ → PipeState Stage
  P = pipe_states_of net.layout drivers flow

  abbrev On : (sieves : List Sieve) (n : ℕ) (run : RunPlan) (own w : ℕ) (source : SourceForm) (steps : List StepForm) → RunsAs net.layout n run own w source steps → (ℕ → ℕ → Noted) → Type 0
  On sieves n run own w source steps r notes = StandsOn P of_join net.tables net.layout sieves n run own w source steps r notes

  -- what is said of all scans and joins
  abbrev Sifts : (n : ℕ) (run : RunPlan) (own w : ℕ) (source : SourceForm) (steps : List StepForm) → RunsAs net.layout n run own w source steps → Type 0
  Sifts n run own w source steps r = Throughout (IsSifted net.layout drivers due) (IsSure P of_join) net.layout n run own w source steps r

  -- the first half of an operator stands behind the plan
  record IsHalfStanding (n : ℕ) (run : RunPlan) (half : HalvedForm) (own : ℕ) (pipe : PipeForm)
      (r : Into (half_step half) (RunsAs net.layout n run) own pipe.drivers pipe.source pipe.steps) : Type 0 where
    is : IsHalfPipeOf ghosts n run (at_node r.0 (half_stage half (types_of (tree_of_run run)))) (P own)
    on : On [] n run own pipe.drivers pipe.source r.1.0 r.1.2 (P own).notes
    fits : GaveTyped (half_types half (types_of (tree_of_run run))) n (P own)

  whole : (sieves : List Sieve) (n : ℕ) (run : RunPlan) (own : ℕ) (pipe : PipeForm) → slice_get net.layout own ≡ Some pipe → pipe.tasks ≡ n
      → (r : RunsAs net.layout n run own pipe.drivers pipe.source pipe.steps) → On sieves n run own pipe.drivers pipe.source pipe.steps r (P own).notes
      → IsStanding P of_join net.tables net.layout sieves n run own pipe r
  whole sieves n run own pipe is tasks r on = record {
    is = lanes net drivers of settled flow flowed n own pipe is tasks run r laws on.typed on.built;
    on = on;
    gave = lanes_give net drivers of settled flow flowed n own pipe is tasks run r laws on.typed on.built;
  }

  half_whole : (n : ℕ) (run : RunPlan) (half : HalvedForm) (own : ℕ) (pipe : PipeForm) → slice_get net.layout own ≡ Some pipe → pipe.tasks ≡ n
      → (r : Into (half_step half) (RunsAs net.layout n run) own pipe.drivers pipe.source pipe.steps) → On [] n run own pipe.drivers pipe.source r.1.0 r.1.2 (P own).notes
      → IsHalfStanding n run half own pipe r
  half_whole n run half own pipe is tasks r on = record {
    is = halves net drivers of settled flow flowed n own pipe is tasks run half r laws on.typed on.built;
    on = on;
    fits = halves_give net drivers of settled flow flowed n own pipe is tasks run half r laws on.typed on.built;
  }

  lone : (n own w : ℕ) (source : SourceForm) → IsIn net.layout n own w source → IsAlone w → IsAlone (P own).drivers
  lone n own w source o alone = ap (λ (p : PipeState Stage). p.drivers) (pipe_at net.layout drivers flow own o.pipe o.is) ∙ o.drivers ∙ alone

  may : (n own w : ℕ) (source : SourceForm) (s : StepOf) → IsIn net.layout n own w source → MayHave s w → MayHave s (P own).drivers
  may n own w source s o is =
      subst (MayHave s) (sym (ap (λ (p : PipeState Stage). p.drivers) (pipe_at net.layout drivers flow own o.pipe o.is) ∙ o.drivers)) is

  -- what the pipe took of the root of a fragment
  passed : (n own w : ℕ) (source : SourceForm) (output : plan.Output) (m : ℕ) (Is : OfPipe) → IsIn net.layout n own w source → (t : Takes net.layout own source output m Is) → (run : RunPlan)
      → PassedSoFar output m n (stopped run (P t.at)) (P own).drivers (P own).took (P own).ended
  passed n own w source output m Is o t run =
      let reads = o.takes ∙ t.is in
      let unread = subst (λ (s : SourceForm). IsOwnScan s o.pipe.scan) reads (tidy.scans own o.pipe o.is) in
      let took = passes.roots own o.pipe o.is t.number reads unread t.form m t.at (is_root net.layout tidy n own w source output m Is o t) (fetched net.layout tidy own o.pipe o.is t.number reads) run in
      subst (λ (i : ℕ). TakesRoot i (P own) output m run (P t.at)) o.tasks (subst (λ (out : plan.Output). TakesRoot o.pipe.tasks (P own) out m run (P t.at)) t.sent took)

  passed_typed : (types : List SqlType) (n own : ℕ) (output : plan.Output) (m at : ℕ) (run : RunPlan) → PassedSoFar output m n (stopped run (P at)) (P own).drivers (P own).took (P own).ended
      → GaveTyped types m (P at) → TookTyped types n (P own)
  passed_typed types n own output m at run took typed =
      task_typed types n (P own) (λ k. sent output n k (gather m (of_tasks (P at).drivers (P at).gave))) (λ k. AllSet m (P at).drivers (P at).done) took
      (λ k in_task. sent_fits types output n k (gather m (of_tasks (P at).drivers (P at).gave)) (all_fit types m (P at) typed))

  table_on : (sieves : List Sieve) (n id place : ℕ) (columns : List ℕ) (kinds : List SqlType) (own w : ℕ) (source : SourceForm) (steps : List StepForm)
      (r : RunsAs net.layout n (plan.scan id place columns kinds) own w source steps) (notes : ℕ → ℕ → Noted) → IsIn net.layout n own w source
      → AllFit kinds (scanned net.tables place columns) → ComeDown of_join due sieves (plan.scan id place columns kinds) → IsSifted net.layout drivers due id own
      → On sieves n (plan.scan id place columns kinds) own w source steps r notes
  table_on sieves n id place columns kinds own w source steps r notes o all down sifted =
      let reads = o.takes ∙ r.0 in
      let known = all_known net drivers flow of settled flowed own o.pipe o.is in
      let sifting : (k d : ℕ) (in_tasks : k < o.pipe.tasks) (in_lanes : d < o.pipe.drivers) → AreSifting (due id) (front_stages o.pipe.steps (known k d in_tasks in_lanes).driver.stages) =
      λ k d in_tasks in_lanes. sifted o.pipe o.is k d in_tasks in_lanes (known k d in_tasks in_lanes).driver (known k d in_tasks in_lanes).there in
      let took = subst (λ (i : ℕ). TakesTable net.tables i o.pipe.drivers (rows_taken_by drivers o.pipe) (sources_ended drivers o.pipe) place columns) o.tasks
      (passes.tables own o.pipe o.is place columns kinds reads) in
      let at = sym (pipe_at net.layout drivers flow own o.pipe o.is) in
      record {
        stands = subst (λ (p : PipeState Stage). StandsLosing ghosts (λ i. p) of_join net.tables sieves own n (plan.scan id place columns kinds) notes) at
            (scan_stands net drivers flow laws own o.pipe known (due id) sieves kinds down n o.tasks sifting (scanned net.tables place columns) all took);
        below = λ at within. within;
        typed = subst (TookTyped kinds n) at (scan_typed net drivers flow laws own o.pipe known (due id) sieves kinds down n o.tasks sifting (scanned net.tables place columns) all took);
        built = tt;
      }

  rows_on : (sieves : List Sieve) (n id : ℕ) (kinds : List SqlType) (list : List Row) (own w : ℕ) (source : SourceForm) (steps : List StepForm)
      (r : RunsAs net.layout n (plan.values id kinds list) own w source steps) (notes : ℕ → ℕ → Noted) → IsIn net.layout n own w source
      → AllFit kinds list → On sieves n (plan.values id kinds list) own w source steps r notes
  rows_on sieves n id kinds list own w source steps r notes o all =
      let reads = o.takes ∙ r.1 in
      let unread = subst (λ (s : SourceForm). IsOwnScan s o.pipe.scan) reads (tidy.scans own o.pipe o.is) in
      let took = subst (λ (i : ℕ). TakesRows i (P own) list) o.tasks (passes.rows own o.pipe o.is kinds list reads unread (o.drivers ∙ r.0)) in
      record {
        stands = took;
        below = λ at within. within;
        typed = task_typed kinds n (P own) (λ k. list) (λ k. Unit {0}) took (λ k in_task. all);
        built = tt;
      }

  union_on : (sieves : List Sieve) (n id : ℕ) (left right : RunPlan) (own w : ℕ) (source : SourceForm) (steps : List StepForm) (r : RunsAs net.layout n (plan.union id left right) own w source steps)
      (notes : ℕ → ℕ → Noted) → IsIn net.layout n own w source → types_of (tree_of_run left) ≡ types_of (tree_of_run right)
      → IsStanding P of_join net.tables net.layout [] n left r.3.0 r.3.1.pipe r.3.1.so → IsStanding P of_join net.tables net.layout [] n right r.4.0 r.4.1.pipe r.4.1.so
      → On sieves n (plan.union id left right) own w source steps r notes
  union_on sieves n id left right own w source steps r notes o same first second =
      let i = r.3.0 in
      let j = r.4.0 in
      let reads = o.takes ∙ r.1 in
      let sides = are_sides net.layout tidy n own i j o.pipe o.is reads (giver net.layout n (form.side own) i (RunsAs net.layout n left) r.3.1)
      (giver net.layout n (form.side own) j (RunsAs net.layout n right) r.4.1) r.5 in
      let unread = subst (λ (s : SourceForm). IsOwnScan s o.pipe.scan) reads (tidy.scans own o.pipe o.is) in
      let took = subst (λ (k : ℕ). TakesSides k (P own) (P i) (P j)) o.tasks
      (passes.sides own o.pipe o.is reads unread (o.drivers ∙ r.0) i j (subst (λ (k : ℕ). AreSides net.layout k own i j) (sym o.tasks) sides)) in
      let types = types_of (tree_of_run left) in
      let right_gave = subst (λ (ts : List SqlType). GaveTyped ts n (P j)) (sym same) second.gave in
      record {
        stands = (i, j, first.is, first.on.stands, second.is, second.on.stands, took);
        below = λ place within. either (or_below (first.on.below place)) (or_below (second.on.below place)) within;
        typed = task_typed types n (P own) (λ k. of_tasks (P i).drivers (P i).gave k ++ of_tasks (P j).drivers (P j).gave k) (λ k. AreDoneIn (P i) k × AreDoneIn (P j) k) took
            (λ k in_task. All-append (λ (row : Row). IsTrue (fits_row types row)) (of_tasks (P i).drivers (P i).gave k) (of_tasks (P j).drivers (P j).gave k) (task_fits types n (P i) first.gave k in_task) (task_fits types n (P j) right_gave k in_task));
        built = tt;
      }

  -- a node that takes what a fragment's root gave
  remote_on : (sieves : List Sieve) (n id : ℕ) (output : plan.Output) (m : ℕ) (input : RunPlan) (own w : ℕ) (source : SourceForm) (steps : List StepForm)
      (r : RunsAs net.layout n (plan.remote id output m input) own w source steps) (notes : ℕ → ℕ → Noted) → IsIn net.layout n own w source
      → IsStanding P of_join net.tables net.layout sieves m input r.1.at r.1.root.pipe r.1.root.so → On sieves n (plan.remote id output m input) own w source steps r notes
  remote_on sieves n id output m input own w source steps r notes o root =
      let took = passed n own w source output m (RunsAs net.layout m input) o r.1 input in
      record {
        stands = (r.1.at, root.is, root.on.stands, took);
        below = λ place within. or_below (root.on.below place) within;
        typed = passed_typed (types_of (tree_of_run input)) n own output m r.1.at input took root.gave;
        built = tt;
      }

  -- the types of what the second half takes
  half_typed : (n own w : ℕ) (source : SourceForm) (output : plan.Output) (m : ℕ) (input : RunPlan) (half : HalvedForm) → IsIn net.layout n own w source
      → (t : Takes net.layout own source output m (Into (half_step half) (RunsAs net.layout m input))) → IsHalfStanding m input half t.at t.root.pipe t.root.so
      → TookTyped (half_types half (types_of (tree_of_run input))) n (P own)
  half_typed n own w source output m input half o t root =
      passed_typed (half_types half (types_of (tree_of_run input))) n own output m t.at input
      (passed n own w source output m (Into (half_step half) (RunsAs net.layout m input)) o t input) root.fits

  pub stand : (sieves : List Sieve) (n : ℕ) (run : RunPlan) (own w : ℕ) (source : SourceForm) (steps : List StepForm) (r : RunsAs net.layout n run own w source steps) (notes : ℕ → ℕ → Noted)
      → IsIn net.layout n own w source → FitsTables (tree_of_run run) net.tables → Along (Follows P own n) net.layout n run own w source steps r notes
      → ComeDown of_join due sieves run → Sifts n run own w source steps r → On sieves n run own w source steps r notes
  stand sieves n (plan.scan id place columns kinds) own w source steps r notes o fits follow down sifts = table_on sieves n id place columns kinds own w source steps r notes o fits.2 down sifts
  stand sieves n (plan.values id kinds list) own w source steps r notes o fits follow down sifts = rows_on sieves n id kinds list own w source steps r notes o fits.1
  stand sieves n (plan.remote id output m input) own w source steps r notes o fits follow down sifts =
      let p = r.1.root in
      let on = stand sieves m input r.1.at p.pipe.drivers p.pipe.source p.pipe.steps p.so (P r.1.at).notes (in_it net.layout m r.1.at p.pipe p.is p.tasks) fits
      (follows net drivers of settled flow flowed m r.1.at p.pipe p.is p.tasks input p.so) down sifts in
      remote_on sieves n id output m input own w source steps r notes o (whole sieves m input r.1.at p.pipe p.is p.tasks p.so on)
  stand sieves n (plan.step id s input) own w source steps r notes o fits follow down sifts =
      let on = stand (under (types_of (tree_of_run input)) s sieves) n input own w source r.1.0 r.1.2 notes o fits.1 follow down sifts in
      record { stands = (may n own w source s o r.0, on.stands); below = on.below; typed = on.typed; built = on.built }
  stand sieves n (plan.join id kind columns left right) own w source steps r notes o fits follow down sifts =
      let p = r.3 in
      let right_on = stand [] n right r.0 p.pipe.drivers p.pipe.source p.pipe.steps p.so.1 (P r.0).notes (in_it net.layout n r.0 p.pipe p.is p.tasks) fits.1
      (follows net drivers of settled flow flowed n r.0 p.pipe p.is p.tasks right p.so.1) down.1 sifts.1 in
      let built = whole [] n right r.0 p.pipe p.is p.tasks p.so.1 right_on in
      let on = stand (over_input (left_column kind (width_of (tree_of_run left))) (of_join id ++ sieves)) n left own w source r.4.0 r.4.2 (λ k d. other_notes (notes k d)) o fits.0 follow.1 down.0 sifts.2 in
      record {
        stands = (r.0, built.is, built.on.stands, follow.0, sifts.0, built.gave, on.stands);
        below = λ place within. either (or_below (built.on.below place)) (on.below place) within;
        typed = on.typed;
        built = (built.gave, on.built);
      }
  stand sieves n (plan.halves id remote output m half input) own w source steps r notes o fits follow down sifts =
      let t = r.2 in
      let p = t.root in
      let on = stand [] m input t.at p.pipe.drivers p.pipe.source p.so.1.0 p.so.1.2 (P t.at).notes (in_it net.layout m t.at p.pipe p.is p.tasks) fits.1
      (half_follows net drivers of settled flow flowed m t.at p.pipe p.is p.tasks input half p.so) down sifts in
      let root = half_whole m input half t.at p.pipe p.is p.tasks p.so on in
      record {
        stands = (t.at, p.so.0, lone n own w source o r.0, root.is, root.on.stands, passed n own w source output m (Into (half_step half) (RunsAs net.layout m input)) o t input);
        below = λ place within. or_below (root.on.below place) within;
        typed = half_typed n own w source output m input half o t root;
        built = tt;
      }
  stand sieves n (plan.union id left right) own w source steps r notes o fits follow down sifts =
      let p = r.3.1 in
      let q = r.4.1 in
      let first = stand [] n left r.3.0 p.pipe.drivers p.pipe.source p.pipe.steps p.so (P r.3.0).notes (in_it net.layout n r.3.0 p.pipe p.is p.tasks) fits.1
      (follows net drivers of settled flow flowed n r.3.0 p.pipe p.is p.tasks left p.so) down.0 sifts.0 in
      let second = stand [] n right r.4.0 q.pipe.drivers q.pipe.source q.pipe.steps q.so (P r.4.0).notes (in_it net.layout n r.4.0 q.pipe q.is q.tasks) fits.2
      (follows net drivers of settled flow flowed n r.4.0 q.pipe q.is q.tasks right q.so) down.1 sifts.1 in
      union_on sieves n id left right own w source steps r notes o fits.0 (whole [] n left r.3.0 p.pipe p.is p.tasks p.so first) (whole [] n right r.4.0 q.pipe q.is q.tasks q.so second)

  pub all_stand : (sieves : List Sieve) (n : ℕ) (run : RunPlan) (own : ℕ) (pipe : PipeForm) → slice_get net.layout own ≡ Some pipe → pipe.tasks ≡ n
      → (r : RunsAs net.layout n run own pipe.drivers pipe.source pipe.steps) → AreSiftedBy drivers P of_join due net.layout sieves n run own pipe.drivers pipe.source pipe.steps r
      → FitsTables (tree_of_run run) net.tables → IsStanding P of_join net.tables net.layout sieves n run own pipe r
  all_stand sieves n run own pipe is tasks r sifted fits =
      whole sieves n run own pipe is tasks r (stand sieves n run own pipe.drivers pipe.source pipe.steps r (P own).notes (in_it net.layout n own pipe is tasks) fits
      (follows net drivers of settled flow flowed n own pipe is tasks run r) sifted.down sifted.all)
