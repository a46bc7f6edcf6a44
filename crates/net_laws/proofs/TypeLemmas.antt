-- A pipe that runs a plan takes and gives rows of its types.
use Rattle.std.proofs.Common.{◌≡◌, ℕ, List, [], ◌∷◌, ◌++◌, Some, true, refl, ap, sym, subst, ◌∙◌}
use Rattle.std.specs.Prelude.{slice_get}
use Rattle.std.proofs.lemmas.Bool.{eq-eqb}
use Rattle.sql_values.specs.declared.types.SqlType.{SqlType}
use Rattle.plan_trees.specs.Steps as steps_of
use Rattle.plan_trees.specs.TreeTypes.{types_of}
use Rattle.plan_run_laws.specs.HalvedSteps.{HalvedForm, whole_step}
use Rattle.plan_run_laws.specs.HalvedSteps as halved_form
use Rattle.plan_docs.specs.declared.plan.Output.{Output}
use Rattle.plan_run_laws.specs.RunPlans.{RunPlan, tree_of_run}
use Rattle.plan_run_laws.specs.RunPlans as plan
use Rattle.driver_net_laws.specs.Operators.{types_of_source}
use Rattle.plan_layout.specs.Pipes.{PipeForm, SourceForm, StepForm, TargetForm}
use Rattle.plan_layout.specs.Pipes as form
use Rattle.net_laws.specs.RunPipes.{Into, OfPipe, RunsAs, Takes, final_step}
use Rattle.driver_net_laws.specs.Types.{PipesAreTyped, PipeTypes, TakesTypes, gives_to, types_after, types_through}
use Rattle.net_laws.specs.Halves.{half_step, half_types}
use Rattle.net_laws.specs.Typed.{HasHalfTypes, HasTypes}

-- the pipe at a place, which takes from this source
pub record IsAt (layout : List PipeForm) (own : ℕ) (source : SourceForm) : Type 0 where
  pub pipe : PipeForm
  pub is : slice_get layout own ≡ Some pipe
  pub takes : pipe.source ≡ source

pub at_pipe : (layout : List PipeForm) (own : ℕ) (pipe : PipeForm) → slice_get layout own ≡ Some pipe → IsAt layout own pipe.source
at_pipe layout own pipe is = record { pipe = pipe; is = is; takes = refl }

module _ (layout : List PipeForm) (types : ℕ → PipeTypes) where
  -- those behind some steps of the pipe
  abbrev pub through : ℕ → List StepForm → List SqlType
  through own steps = types_through types (types own).halved steps (types own).taken

  through-snoc : (halved : List SqlType) (steps : List StepForm) (step : StepForm) (between : List SqlType)
      → types_through types halved (steps ++ step ∷ []) between ≡ types_after types halved step (types_through types halved steps between)
  through-snoc halved [] step between = refl
  through-snoc halved (s ∷ steps) step between = through-snoc halved steps step (types_after types halved s between)

  -- where some of its steps run a plan
  pub record AreThrough (own : ℕ) (run : RunPlan) (steps : List StepForm) : Type 0 where
    pub taken : (types own).taken ≡ types_of_source run
    pub given : through own steps ≡ types_of (tree_of_run run)

  behind : (own : ℕ) (input run : RunPlan) (step : StepForm) (rest steps : List StepForm) → steps ≡ rest ++ step ∷ [] → AreThrough own input rest
      → types_of_source input ≡ types_of_source run → types_after types (types own).halved step (types_of (tree_of_run input)) ≡ types_of (tree_of_run run) → AreThrough own run steps
  behind own input run step rest steps are a source after = record {
    taken = a.taken ∙ source;
    given = ap (through own) are ∙ through-snoc (types own).halved rest step (types own).taken ∙ ap (types_after types (types own).halved step) a.given ∙ after;
  }

  no_step : (own : ℕ) (run : RunPlan) (steps : List StepForm) → steps ≡ [] → (types own).taken ≡ types_of_source run → types_of_source run ≡ types_of (tree_of_run run)
      → AreThrough own run steps
  no_step own run steps none taken same = record { taken = taken; given = ap (through own) none ∙ taken ∙ same }

  after_half : (halved : List SqlType) (half : HalvedForm) (id : ℕ) (between : List SqlType) → types_after types halved (half_step half id) between ≡ half_types half between
  after_half halved (halved_form.aggregate keys calls) id between = refl
  after_half halved half id between = refl

  module _ (typed : PipesAreTyped layout types) where
    takes_types : (own : ℕ) (source : SourceForm) → IsAt layout own source → TakesTypes layout types own source
    takes_types own source a = subst (TakesTypes layout types own) a.takes (typed own a.pipe a.is).takes

    all_given : (own : ℕ) (pipe : PipeForm) (run : RunPlan) → slice_get layout own ≡ Some pipe → AreThrough own run pipe.steps → HasTypes run (types own)
    all_given own pipe run is a = record { taken = a.taken; given = (typed own pipe is).gives ∙ a.given }

    half_given : (own : ℕ) (pipe : PipeForm) (run : RunPlan) (half : HalvedForm) (id : ℕ) (rest : List StepForm) → slice_get layout own ≡ Some pipe
        → pipe.steps ≡ rest ++ half_step half id ∷ [] → AreThrough own run rest → HasHalfTypes run half (types own)
    half_given own pipe run half id rest is are a =
        let t = typed own pipe is in
        record {
          taken = a.taken;
          before = t.last rest (half_step half id) are ∙ a.given;
          given = t.gives ∙ ap (through own) are ∙ through-snoc (types own).halved rest (half_step half id) (types own).taken
              ∙ after_half (types own).halved half id (through own rest) ∙ ap (half_types half) a.given;
        }

    gives_here : (own : ℕ) (target : TargetForm) (output : Output) → target ≡ form.readers output own → gives_to own target ≡ true
    gives_here own target output is = ap (gives_to own) is ∙ eq-eqb own own refl

    -- what the pipe takes is what the root of the fragment gives that it reads
    module _ (own : ℕ) (source : SourceForm) (output : plan.Output) (m : ℕ) (Is : OfPipe) (at : IsAt layout own source) (t : Takes layout own source output m Is) where
      from_root : ((types t.at).given ≡ (types own).taken) × ((types t.at).before ≡ (types own).halved)
      from_root =
          let both = subst (TakesTypes layout types own) t.is (takes_types own source at) in
          let here = gives_here own t.root.pipe.target t.form t.root.has in
          (both.0 t.at t.root.pipe t.root.is here, both.1 t.at t.root.pipe t.root.is here)

    pub record IsHalved (own : ℕ) (run : RunPlan) (half : HalvedForm) : Type 0 where
      pub taken : (types own).taken ≡ half_types half (types_of (tree_of_run run))
      pub halved : (types own).halved ≡ types_of (tree_of_run run)

    after_final : (own : ℕ) (run : RunPlan) (half : HalvedForm) (id : ℕ) → IsHalved own run half
        → types_after types (types own).halved (final_step half id) (types own).taken ≡ steps_of.types_after (whole_step half) (types_of (tree_of_run run))
    after_final own run (halved_form.aggregate keys calls) id h =
        ap (λ (ts : List SqlType). types_after types ts (form.final id keys calls) (types own).taken) h.halved
    after_final own run half id h = h.taken

    -- where the root of the fragment is a first half, of which some steps before run a plan
    pub halved_by : (n : ℕ) (run : RunPlan) (half : HalvedForm) (own : ℕ) (source : SourceForm) (output : plan.Output) → IsAt layout own source
        → (t : Takes layout own source output n (Into (half_step half) (RunsAs layout n run))) → AreThrough t.at run t.root.so.1.0 → IsHalved own run half
    halved_by n run half own source output at t root =
        let given = half_given t.at t.root.pipe run half t.root.so.0 t.root.so.1.0 t.root.is t.root.so.1.1 root in
        let from = from_root own source output n (Into (half_step half) (RunsAs layout n run)) at t in
        record { taken = sym from.0 ∙ given.given; halved = sym from.1 ∙ given.before }

    pub are_through : (n : ℕ) (run : RunPlan) (own w : ℕ) (source : SourceForm) (steps : List StepForm) → IsAt layout own source → RunsAs layout n run own w source steps
        → AreThrough own run steps
    are_through n (plan.scan id place columns kinds) own w source steps at r =
        no_step own (plan.scan id place columns kinds) steps r.1 (subst (TakesTypes layout types own) r.0 (takes_types own source at)) refl
    are_through n (plan.values id kinds list) own w source steps at r =
        no_step own (plan.values id kinds list) steps r.2 (subst (TakesTypes layout types own) r.1 (takes_types own source at)) refl
    are_through n (plan.remote id output m input) own w source steps at r =
        let t = r.1 in
        let root = are_through m input t.at t.root.pipe.drivers t.root.pipe.source t.root.pipe.steps (at_pipe layout t.at t.root.pipe t.root.is) t.root.so in
        let given = all_given t.at t.root.pipe input t.root.is root in
        no_step own (plan.remote id output m input) steps r.0 (sym (from_root own source output m (RunsAs layout m input) at t).0 ∙ given.given) refl
    are_through n (plan.step id s input) own w source steps at r =
        behind own input (plan.step id s input) (form.does id s) r.1.0 steps r.1.1 (are_through n input own w source r.1.0 at r.1.2) refl refl
    are_through n (plan.join id kind on left right) own w source steps at (j, build, same, p, (rest, are, so)) =
        let right_is = are_through n right j p.pipe.drivers p.pipe.source p.pipe.steps (at_pipe layout j p.pipe p.is) p.so.1 in
        let built = all_given j p.pipe right p.is right_is in
        behind own left (plan.join id kind on left right) (form.probe id kind build.on j) rest steps are (are_through n left own w source rest at so) refl
        (ap (λ (ts : List SqlType). types_of (tree_of_run left) ++ ts) built.given)
    are_through n (plan.halves id remote output m half input) own w source steps at r =
        let t = r.2 in
        let root = are_through m input t.at t.root.pipe.drivers t.root.pipe.source t.root.so.1.0 (at_pipe layout t.at t.root.pipe t.root.is) t.root.so.1.2 in
        let h = halved_by m input half own source output at t root in
        record {
          taken = h.taken;
          given = ap (through own) r.1 ∙ after_final own input half id h;
        }
    are_through n (plan.union id left right) own w source steps at r =
        let p = r.3.1 in
        let given = all_given r.3.0 p.pipe left p.is (are_through n left r.3.0 p.pipe.drivers p.pipe.source p.pipe.steps (at_pipe layout r.3.0 p.pipe p.is) p.so) in
        let takes = subst (TakesTypes layout types own) r.1 (takes_types own source at) in
        no_step own (plan.union id left right) steps r.2
        (sym (takes r.3.0 p.pipe p.is (ap (gives_to own) p.has ∙ eq-eqb own own refl)) ∙ given.given) refl

    pub runs_typed : (n : ℕ) (run : RunPlan) (own : ℕ) (pipe : PipeForm) → slice_get layout own ≡ Some pipe → RunsAs layout n run own pipe.drivers pipe.source pipe.steps
        → HasTypes run (types own)
    runs_typed n run own pipe is r = all_given own pipe run is (are_through n run own pipe.drivers pipe.source pipe.steps (at_pipe layout own pipe is) r)

    pub half_typed : (n : ℕ) (run : RunPlan) (half : HalvedForm) (own : ℕ) (pipe : PipeForm) → slice_get layout own ≡ Some pipe
        → Into (half_step half) (RunsAs layout n run) own pipe.drivers pipe.source pipe.steps → HasHalfTypes run half (types own)
    half_typed n run half own pipe is (id, (rest, are, r)) =
        half_given own pipe run half id rest is are (are_through n run own pipe.drivers pipe.source rest (at_pipe layout own pipe is) r)
