-- The drivers of a plan's layout can be made, where the plan's tree fits its tables and these are there.
use Rattle.std.proofs.Common.{◌≡◌, ℕ, ◌<◌, List, [], ◌∷◌, ◌++◌, length, map, ◌⊎◌, inl, inr, Some, ap, sym, ◌∙◌, subst}
use Rattle.std.specs.Prelude.{IsTrue, slice_get}
use Rattle.sql_values.specs.declared.table.Table.{Table}
use Rattle.sql_values.specs.declared.types.SqlType.{SqlType}
use Rattle.accumulators.specs.Limits.{are_allowed}
use Rattle.plan_trees.specs.Steps.{StepForm as StepOf}
use Rattle.plan_trees.specs.Steps as steps_of
use Rattle.plan_trees.specs.TreeTypes.{types_of}
use Rattle.plan_run_laws.specs.RunPlans.{RunPlan, tree_of_run}
use Rattle.plan_run_laws.specs.RunPlans as plan
use Rattle.plan_trees.specs.Layouts.{partial_types}
use Rattle.plan_layout.specs.Pipes.{PipeForm, SourceForm, StepForm}
use Rattle.plan_layout.specs.Pipes as form
use Rattle.tree_evaluator.specs.Fits.{FitsTables, StepFits as TreeStepFits}
use Rattle.tree_evaluator.specs.Stops.{rows_of_table}
use Rattle.tree_evaluator.proofs.SortLemmas.{has_column}
use Rattle.plan_fit_laws.specs.Reads.{ReadsTables}
use Rattle.net_laws.specs.Reached.{IsWithin}
use Rattle.net_laws.specs.RunPipes.{Into, RunsAs, Takes, final_step}
use Rattle.driver_net_laws.specs.Makes.{PipeFits, SourceFits, StepFits, StepsFit}
use Rattle.driver_net_laws.specs.Types.{PipesAreTyped, PipeTypes, types_after, types_through}
use Rattle.plan_run_laws.specs.HalvedSteps.{HalvedForm, whole_step}
use Rattle.plan_run_laws.specs.HalvedSteps as halved_form
use Rattle.net_laws.specs.Halves.{half_step}
use Rattle.net_laws.proofs.TypeLemmas.{IsAt, IsHalved, are_through, at_pipe, halved_by, through}

module _ (layout : List PipeForm) (types : ℕ → PipeTypes) (typed : PipesAreTyped layout types) (tables : List Table) where
  abbrev pub Fits : RunPlan → Type 0
  Fits run = FitsTables (tree_of_run run) (map rows_of_table tables)

  abbrev TypesOf : RunPlan → List SqlType
  TypesOf run = types_of (tree_of_run run)

  -- some steps of the pipe at a place can be made
  abbrev pub CanMake : ℕ → List StepForm → Type 0
  CanMake own steps = StepsFit types (types own).halved steps (types own).taken

  fits_snoc : (halved : List SqlType) (steps : List StepForm) (step : StepForm) (between : List SqlType) → StepsFit types halved steps between
      → StepFits halved step (types_through types halved steps between) → StepsFit types halved (steps ++ step ∷ []) between
  fits_snoc halved [] step between fit last = (last, tt)
  fits_snoc halved (s ∷ steps) step between fit last = (fit.0, fits_snoc halved steps step (types_after types halved s between) fit.1 last)

  one_more : (own : ℕ) (steps rest : List StepForm) (step : StepForm) → steps ≡ rest ++ step ∷ [] → CanMake own rest → StepFits (types own).halved step (through layout types own rest)
      → CanMake own steps
  one_more own steps rest step are fit last =
      subst (λ (ss : List StepForm). CanMake own ss) (sym are) (fits_snoc (types own).halved rest step (types own).taken fit last)

  -- the pipe at a place can be made
  abbrev pub Good : ℕ → Type 0
  Good place = (pipe : PipeForm) → slice_get layout place ≡ Some pipe → PipeFits tables types place pipe

  -- the source of a pipe, and all pipes that begin below
  pub record Makes (own : ℕ) (source : SourceForm) (steps : List StepForm) (Within : ℕ → Type 0) : Type 0 where
    pub made : CanMake own steps
    pub read : SourceFits tables source
    pub below : (place : ℕ) → Within place → Good place

  -- a pipe that begins at a place, with those below it
  pub pipe_good : (at : ℕ) (pipe : PipeForm) (Within : ℕ → Type 0) → slice_get layout at ≡ Some pipe → Makes at pipe.source pipe.steps Within → (place : ℕ) → (place ≡ at) ⊎ Within place → Good place
  pipe_good at pipe Within is m place (inr inside) = m.below place inside
  pipe_good at pipe Within is m place (inl same) = λ other so.
      let both : pipe ≡ other = cc (is, ap (slice_get layout) (sym same) ∙ so) in
      subst (λ (q : PipeForm). PipeFits tables types place q) both
      (subst (λ (k : ℕ). PipeFits tables types k pipe) (sym same)
      (record { source = m.read; steps = m.made }))

  no_steps : (own : ℕ) (steps : List StepForm) → steps ≡ [] → CanMake own steps
  no_steps own steps none = subst (λ (ss : List StepForm). CanMake own ss) (sym none) tt

  one_step : (own : ℕ) (steps : List StepForm) (step : StepForm) → steps ≡ step ∷ [] → StepFits (types own).halved step (types own).taken → CanMake own steps
  one_step own steps step are fit = subst (λ (ss : List StepForm). CanMake own ss) (sym are) (fit, tt)

  -- a source that others put to
  abbrev Plain : SourceForm → Type 0
  Plain source = SourceFits tables source

  fragment_plain : (source : SourceForm) (number : ℕ) → source ≡ form.fragment number → Plain source
  fragment_plain source number is = subst Plain (sym is) tt

  -- what comes to a step behind those that run a plan
  comes : (n : ℕ) (input : RunPlan) (own w : ℕ) (source : SourceForm) (rest : List StepForm) → IsAt layout own source → RunsAs layout n input own w source rest
      → through layout types own rest ≡ TypesOf input
  comes n input own w source rest at r = (are_through layout types typed n input own w source rest at r).given

  over : (own : ℕ) (source : SourceForm) (steps rest : List StepForm) (step : StepForm) (Within : ℕ → Type 0) (types_in : List SqlType) → steps ≡ rest ++ step ∷ []
      → through layout types own rest ≡ types_in → Makes own source rest Within → StepFits (types own).halved step types_in → Makes own source steps Within
  over own source steps rest step Within types_in are here m fit = record {
    made = one_more own steps rest step are m.made (subst (λ (ts : List SqlType). StepFits (types own).halved step ts) (sym here) fit);
    read = m.read;
    below = m.below;
  }

  -- behind steps that run an input
  behind : (n : ℕ) (input run : RunPlan) (own w : ℕ) (source : SourceForm) (steps rest : List StepForm) (step : StepForm) (at : IsAt layout own source) (are : steps ≡ rest ++ step ∷ [])
      (r : RunsAs layout n input own w source rest) (Within : ℕ → Type 0) → Makes own source rest Within → StepFits (types own).halved step (TypesOf input) → Makes own source steps Within
  behind n input run own w source steps rest step at are r Within m fit = over own source steps rest step Within (TypesOf input) are (comes n input own w source rest at r) m fit

  -- a source that reads a fragment's root
  reads_root : (own : ℕ) (source : SourceForm) (steps : List StepForm) (number : ℕ) (Within : ℕ → Type 0) → source ≡ form.fragment number → CanMake own steps
      → ((place : ℕ) → Within place → Good place) → Makes own source steps Within
  reads_root own source steps number Within is made below =
      let plain = fragment_plain source number is in
      record { made = made; read = plain; below = below }

  -- the root of a fragment with a half behind its plan
  half_root : (n : ℕ) (run : RunPlan) (half : HalvedForm) (own : ℕ) (source : SourceForm) (output : plan.Output) (t : Takes layout own source output n (Into (half_step half) (RunsAs layout n run)))
      (Within : ℕ → Type 0) → Makes t.at t.root.pipe.source t.root.so.1.0 Within → StepFits (types t.at).halved (half_step half t.root.so.0) (TypesOf run)
      → (place : ℕ) → (place ≡ t.at) ⊎ Within place → Good place
  half_root n run half own source output t Within m fit place which =
      let at = at_pipe layout t.at t.root.pipe t.root.is in
      let whole = over t.at t.root.pipe.source t.root.pipe.steps t.root.so.1.0 (half_step half t.root.so.0) Within (TypesOf run) t.root.so.1.1
      (comes n run t.at t.root.pipe.drivers t.root.pipe.source t.root.so.1.0 at t.root.so.1.2) m fit in
      pipe_good t.at t.root.pipe Within t.root.is whole place which

  -- a stage can be made for a step whose tree fits
  step_makes : (halved : List SqlType) (id : ℕ) (s : StepOf) (input : RunPlan) → TreeStepFits (TypesOf input) s → Fits input → StepFits halved (form.does id s) (TypesOf input)
  step_makes halved id (steps_of.filter predicate) input own fits = (has_column (tree_of_run input) (map rows_of_table tables) fits, own)
  step_makes halved id (steps_of.project columns) input own fits = own
  step_makes halved id (steps_of.aggregate keys calls) input own fits = own
  step_makes halved id (steps_of.limit count) input own fits = tt
  step_makes halved id s input own fits = has_column (tree_of_run input) (map rows_of_table tables) fits

  first_makes : (halved : List SqlType) (half : HalvedForm) (id : ℕ) (input : RunPlan) → TreeStepFits (TypesOf input) (whole_step half) → Fits input
      → StepFits halved (half_step half id) (TypesOf input)
  first_makes halved (halved_form.aggregate keys calls) id input own fits = own
  first_makes halved half id input own fits = step_makes halved id (whole_step half) input own fits

  final_makes : (own : ℕ) (half : HalvedForm) (id : ℕ) (input : RunPlan) → TreeStepFits (TypesOf input) (whole_step half) → Fits input → IsHalved layout types typed own input half
      → StepFits (types own).halved (final_step half id) (types own).taken
  final_makes own (halved_form.aggregate keys calls) id input fit fits h = (
    fit.0,
    subst (λ (ts : List SqlType). IsTrue (are_allowed ts calls)) (sym h.halved) fit.1,
    h.taken ∙ ap (λ (ts : List SqlType). partial_types ts keys calls) (sym h.halved),
  )
  final_makes own half id input fit fits h =
      subst (λ (ts : List SqlType). StepFits (types own).halved (form.does id (whole_step half)) ts) (sym h.taken) (step_makes (types own).halved id (whole_step half) input fit fits)

  pub run_makes : (n : ℕ) (run : RunPlan) (own w : ℕ) (source : SourceForm) (steps : List StepForm) → IsAt layout own source → (r : RunsAs layout n run own w source steps)
      → Fits run → ReadsTables tables run → Makes own source steps (λ place. IsWithin layout place n run own w source steps r)
  run_makes n (plan.scan id place columns kinds) own w source steps at r fits reads =
      let plain = subst Plain (sym r.0) reads in
      record { made = no_steps own steps r.1; read = plain; below = λ k none. absurd none }
  run_makes n (plan.values id kinds list) own w source steps at r fits reads =
      let plain = subst Plain (sym r.1) (fits.0, fits.1) in
      record { made = no_steps own steps r.2; read = plain; below = λ k none. absurd none }
  run_makes n (plan.remote id output m input) own w source steps at r fits reads =
      let t = r.1 in
      let m2 = run_makes m input t.at t.root.pipe.drivers t.root.pipe.source t.root.pipe.steps (at_pipe layout t.at t.root.pipe t.root.is) t.root.so fits reads in
      reads_root own source steps t.number (λ place. IsWithin layout place n (plan.remote id output m input) own w source steps r) t.is (no_steps own steps r.0)
      (pipe_good t.at t.root.pipe (λ place. IsWithin layout place m input t.at t.root.pipe.drivers t.root.pipe.source t.root.pipe.steps t.root.so) t.root.is m2)
  run_makes n (plan.step id does input) own w source steps at r fits reads =
      behind n input (plan.step id does input) own w source steps r.1.0 (form.does id does) at r.1.1 r.1.2 (λ place. IsWithin layout place n input own w source r.1.0 r.1.2)
      (run_makes n input own w source r.1.0 at r.1.2 fits.1 reads) (step_makes (types own).halved id does input fits.0 fits.1)
  run_makes n (plan.join id kind on left right) own w source steps at r fits reads =
      let p = r.3 in
      let lefts = run_makes n left own w source r.4.0 at r.4.2 fits.0 reads.0 in
      let rights = run_makes n right r.0 p.pipe.drivers p.pipe.source p.pipe.steps (at_pipe layout r.0 p.pipe p.is) p.so.1 fits.1 reads.1 in
      let own_made = over own source steps r.4.0 (form.probe id kind r.1.on r.0) (λ place. IsWithin layout place n left own w source r.4.0 r.4.2) (TypesOf left) r.4.1
      (comes n left own w source r.4.0 at r.4.2) lefts tt in
      record {
        made = own_made.made;
        read = own_made.read;
        below = λ place h. by place h rights lefts;
      }
    where
      by : (place : ℕ) → IsWithin layout place n (plan.join id kind on left right) own w source steps r
          → Makes r.0 r.3.pipe.source r.3.pipe.steps (λ k. IsWithin layout k n right r.0 r.3.pipe.drivers r.3.pipe.source r.3.pipe.steps r.3.so.1)
          → Makes own source r.4.0 (λ k. IsWithin layout k n left own w source r.4.0 r.4.2) → Good place
      by place (inl h) rights lefts = pipe_good r.0 r.3.pipe (λ k. IsWithin layout k n right r.0 r.3.pipe.drivers r.3.pipe.source r.3.pipe.steps r.3.so.1) r.3.is rights place h
      by place (inr h) rights lefts = lefts.below place h
  run_makes n (plan.halves id remote output m half input) own w source steps at r fits reads =
      let t = r.2 in
      let root_at = at_pipe layout t.at t.root.pipe t.root.is in
      let m2 = run_makes m input t.at t.root.pipe.drivers t.root.pipe.source t.root.so.1.0 root_at t.root.so.1.2 fits.1 reads in
      let h = halved_by layout types typed m input half own source output at t
      (are_through layout types typed m input t.at t.root.pipe.drivers t.root.pipe.source t.root.so.1.0 root_at t.root.so.1.2) in
      reads_root own source steps t.number (λ place. IsWithin layout place n (plan.halves id remote output m half input) own w source steps r) t.is
      (one_step own steps (final_step half id) r.1 (final_makes own half id input fits.0 fits.1 h))
      (half_root m input half own source output t (λ place. IsWithin layout place m input t.at t.root.pipe.drivers t.root.pipe.source t.root.so.1.0 t.root.so.1.2) m2
      (first_makes (types t.at).halved half t.root.so.0 input fits.0 fits.1))
  run_makes n (plan.union id left right) own w source steps at r fits reads =
      let plain = subst Plain (sym r.1) tt in
      let p = r.3.1 in
      let q = r.4.1 in
      let lefts = run_makes n left r.3.0 p.pipe.drivers p.pipe.source p.pipe.steps (at_pipe layout r.3.0 p.pipe p.is) p.so fits.1 reads.0 in
      let rights = run_makes n right r.4.0 q.pipe.drivers q.pipe.source q.pipe.steps (at_pipe layout r.4.0 q.pipe q.is) q.so fits.2 reads.1 in
      record { made = no_steps own steps r.2; read = plain; below = λ place h. by place h lefts rights }
    where
      by : (place : ℕ) → IsWithin layout place n (plan.union id left right) own w source steps r
          → Makes r.3.0 r.3.1.pipe.source r.3.1.pipe.steps (λ k. IsWithin layout k n left r.3.0 r.3.1.pipe.drivers r.3.1.pipe.source r.3.1.pipe.steps r.3.1.so)
          → Makes r.4.0 r.4.1.pipe.source r.4.1.pipe.steps (λ k. IsWithin layout k n right r.4.0 r.4.1.pipe.drivers r.4.1.pipe.source r.4.1.pipe.steps r.4.1.so) → Good place
      by place (inl h) lefts rights =
          pipe_good r.3.0 r.3.1.pipe (λ k. IsWithin layout k n left r.3.0 r.3.1.pipe.drivers r.3.1.pipe.source r.3.1.pipe.steps r.3.1.so) r.3.1.is lefts place h
      by place (inr h) lefts rights =
          pipe_good r.4.0 r.4.1.pipe (λ k. IsWithin layout k n right r.4.0 r.4.1.pipe.drivers r.4.1.pipe.source r.4.1.pipe.steps r.4.1.so) r.4.1.is rights place h
