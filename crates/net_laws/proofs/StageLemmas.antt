-- The stages of a driver whose pipe runs a plan were made for the nodes of that plan.
use Rattle.std.proofs.Common.{◌≡◌, ℕ, List, [], ◌∷◌, ◌++◌, length, refl, ap, subst}
use Rattle.sql_values.specs.declared.types.SqlType.{SqlType}
use Rattle.plan_trees.specs.Steps as steps_of
use Rattle.plan_trees.specs.TreeTypes.{types_of}
use Rattle.plan_run_laws.specs.Stages.{second_half}
use Rattle.plan_run_laws.specs.Stages as stage
use Rattle.plan_run_laws.specs.RunPlans.{RunPlan, tree_of_run}
use Rattle.plan_run_laws.specs.RunPlans as plan
use Rattle.driver_net_laws.specs.Pipelines.{NodeStage, at_node}
use Rattle.plan_trees.specs.Layouts.{partial_types}
use Rattle.driver_net_laws.specs.Operators.{NoOperator}
use Rattle.driver_loop.specs.declared.stage.Stage.{Stage}
use Rattle.driver_loop.specs.contracts.stage.StageOperator.TheImpl.{ghosts}
use Rattle.driver_net_laws.specs.Made.{AreMadeFor, Behind}
use Rattle.driver_net_laws.specs.Stages.{IsProbeOf, IsStageOf}
use Rattle.plan_layout.specs.Pipes.{SourceForm, StepForm}
use Rattle.plan_layout.specs.Pipes as form
use Rattle.net_laws.specs.RunPipes.{Into, RunsAs, final_step}
use Rattle.driver_net_laws.specs.Nets.{AreStagesFor, IsStageFor, NetForm}
use Rattle.driver_net_laws.specs.Types.{PipesAreTyped, types_after, types_through}
use Rattle.net_laws.specs.Along.{bells_in}
use Rattle.plan_run_laws.specs.HalvedSteps.{HalvedForm, whole_step}
use Rattle.plan_run_laws.specs.HalvedSteps as halved_form
use Rattle.net_laws.specs.Halves.{half_stage, half_step, half_types}
use Rattle.net_laws.proofs.TypeLemmas.{IsAt, IsHalved, are_through, at_pipe, halved_by, runs_typed, through}

module _ (net : NetForm) (task : ℕ) where
  -- the stage of the last step stands behind those of the others
  record StagesSnoc (halved : List SqlType) (steps : List StepForm) (step : StepForm) (between : List SqlType) (stages : List Stage) : Type 0 where
    before : List Stage
    last : Stage
    are : stages ≡ before ++ last ∷ []
    fronts : AreStagesFor net task halved steps between before
    is : IsStageFor net task halved step (types_through net.types halved steps between)
        (types_after net.types halved step (types_through net.types halved steps between)) (ghosts.as_made last)

  stages-snoc : (halved : List SqlType) (steps : List StepForm) (step : StepForm) (between : List SqlType) (stages : List Stage)
      → AreStagesFor net task halved (steps ++ step ∷ []) between stages → StagesSnoc halved steps step between stages
  stages-snoc halved [] step between [] all = absurd all
  stages-snoc halved [] step between (s ∷ stages) all =
      record { before = []; last = s; are = ap (λ (ss : List Stage). s ∷ ss) all.1; fronts = refl; is = all.0 }
  stages-snoc halved (first ∷ steps) step between [] all = absurd all
  stages-snoc halved (first ∷ steps) step between (s ∷ stages) all =
      let r = stages-snoc halved steps step (types_after net.types halved first between) stages all.1 in
      record { before = s ∷ r.before; last = r.last; are = ap (λ (ss : List Stage). s ∷ ss) r.are; fronts = (all.0, r.fronts); is = r.is }

  module _ (typed : PipesAreTyped net.layout net.types) where
    -- for the first steps of the pipe
    abbrev AreFor : ℕ → List StepForm → List Stage → Type 0
    AreFor own steps stages = AreStagesFor net task (net.types own).halved steps (net.types own).taken stages

    no_stage : (own : ℕ) (steps : List StepForm) (stages : List Stage) → steps ≡ [] → AreFor own steps stages → stages ≡ []
    no_stage own steps stages none all = subst (λ (ss : List StepForm). AreFor own ss stages) none all

    -- the last step, over rows of the types of the node below
    record Snoc (own : ℕ) (run : RunPlan) (step : StepForm) (rest : List StepForm) (stages : List Stage) : Type 0 where
      before : List Stage
      last : Stage
      are : stages ≡ before ++ last ∷ []
      fronts : AreFor own rest before
      is : IsStageFor net task (net.types own).halved step (types_of (tree_of_run run))
          (types_after net.types (net.types own).halved step (types_of (tree_of_run run))) (ghosts.as_made last)

    last_stage : (own : ℕ) (run : RunPlan) (step : StepForm) (rest steps : List StepForm) (stages : List Stage) → steps ≡ rest ++ step ∷ []
        → through net.layout net.types own rest ≡ types_of (tree_of_run run) → AreFor own steps stages → Snoc own run step rest stages
    last_stage own run step rest steps stages are given all =
        let halved = (net.types own).halved in
        let r = stages-snoc halved rest step (net.types own).taken stages (subst (λ (ss : List StepForm). AreFor own ss stages) are all) in
        record {
          before = r.before;
          last = r.last;
          are = r.are;
          fronts = r.fronts;
          is = subst (λ (ts : List SqlType). IsStageFor net task halved step ts (types_after net.types halved step ts) (ghosts.as_made r.last)) given r.is;
        }

    -- the stage of the second half of an operator is the only one
    alone : (own : ℕ) (step : StepForm) (steps : List StepForm) (stages : List Stage) (at : NodeStage) (types given : List SqlType) → steps ≡ step ∷ []
        → (net.types own).taken ≡ types
        → ((made : Stage) → IsStageFor net task (net.types own).halved step (net.types own).taken (types_after net.types (net.types own).halved step (net.types own).taken) made
        → IsStageOf at types given made)
        → AreFor own steps stages → Behind (NoOperator types) at stages given
    alone own step steps stages at types given are taken of all =
        let r = stages-snoc (net.types own).halved [] step (net.types own).taken stages (subst (λ (ss : List StepForm). AreFor own ss stages) are all) in
        record { before = r.before; last = r.last; between = types; are = r.are; input = (r.fronts, refl); is = of (ghosts.as_made r.last) r.is }

    -- so it is of the second half of a step, over the rows of the first one
    final_is : (own : ℕ) (run : RunPlan) (half : HalvedForm) (id : ℕ) (made : Stage) → IsHalved net.layout net.types typed own run half
        → IsStageFor net task (net.types own).halved (final_step half id) (net.types own).taken (types_after net.types (net.types own).halved (final_step half id) (net.types own).taken) made
        → IsStageOf (at_node id (second_half (types_of (tree_of_run run)) half)) (half_types half (types_of (tree_of_run run))) (steps_of.types_after (whole_step half) (types_of (tree_of_run run))) made
    final_is own run (halved_form.aggregate keys calls) id made h is =
        subst (λ (ts : List SqlType). IsStageOf (at_node id (stage.final ts (length keys) calls)) (partial_types (types_of (tree_of_run run)) keys calls)
        (types_after net.types ts (form.final id keys calls) (partial_types (types_of (tree_of_run run)) keys calls)) made) h.halved
        (subst (λ (ts : List SqlType). IsStageOf (at_node id (stage.final (net.types own).halved (length keys) calls)) ts
        (types_after net.types (net.types own).halved (form.final id keys calls) ts) made) h.taken is)
    final_is own run half id made h is = subst (λ (ts : List SqlType). IsStageOf (at_node id (stage.does ts (whole_step half))) ts ts made) h.taken is

    pub are_made : (n : ℕ) (run : RunPlan) (own w : ℕ) (source : SourceForm) (steps : List StepForm) (stages : List Stage) → IsAt net.layout own source
        → (r : RunsAs net.layout n run own w source steps) → AreFor own steps stages
        → AreMadeFor net.links.names run (bells_in net.links task net.layout n run own w source steps r) stages (types_of (tree_of_run run))
    are_made n (plan.scan id place columns kinds) own w source steps stages at r all = (no_stage own steps stages r.1 all, refl)
    are_made n (plan.values id kinds list) own w source steps stages at r all = (no_stage own steps stages r.2 all, refl)
    are_made n (plan.remote id output m input) own w source steps stages at r all = (no_stage own steps stages r.0 all, refl)
    are_made n (plan.step id does input) own w source steps stages at r all =
        let a = are_through net.layout net.types typed n input own w source r.1.0 at r.1.2 in
        let s = last_stage own input (form.does id does) r.1.0 steps stages r.1.1 a.given all in
        record { before = s.before; last = s.last; between = types_of (tree_of_run input); are = s.are; input = are_made n input own w source r.1.0 s.before at r.1.2 s.fronts; is = s.is }
    are_made n (plan.join id kind on left right) own w source steps stages at (j, build, same, p, (rest, are, so)) all =
        let a = are_through net.layout net.types typed n left own w source rest at so in
        let s = last_stage own left (form.probe id kind build.on j) rest steps stages are a.given all in
        let built = runs_typed net.layout net.types typed n right j p.pipe p.is p.so.1 in
        record {
          before = s.before;
          last = s.last;
          between = types_of (tree_of_run left);
          are = s.are;
          input = are_made n left own w source rest s.before at so s.fronts;
          is = subst (λ (ts : List SqlType). IsProbeOf net.links.names (net.links.cells j task) kind on ts (types_of (tree_of_run left)) (types_of (tree_of_run left) ++ ts) (ghosts.as_made s.last)) built.given
              (subst (λ (ps : List (ℕ × ℕ)). IsProbeOf net.links.names (net.links.cells j task) kind ps (net.types j).given (types_of (tree_of_run left))
              (types_of (tree_of_run left) ++ (net.types j).given) (ghosts.as_made s.last)) same.pairs s.is);
        }
    are_made n (plan.halves id remote output m half input) own w source steps stages at r all =
        let t = r.2 in
        let root = are_through net.layout net.types typed m input t.at t.root.pipe.drivers t.root.pipe.source t.root.so.1.0 (at_pipe net.layout t.at t.root.pipe t.root.is) t.root.so.1.2 in
        let h = halved_by net.layout net.types typed m input half own source output at t root in
        let types = types_of (tree_of_run input) in
        alone own (final_step half id) steps stages (at_node id (second_half types half)) (half_types half types) (steps_of.types_after (whole_step half) types) r.1 h.taken
        (λ made is. final_is own input half id made h is) all
    are_made n (plan.union id left right) own w source steps stages at r all = (no_stage own steps stages r.2 all, refl)

    half_is : (halved : List SqlType) (half : HalvedForm) (id : ℕ) (between : List SqlType) (made : Stage)
        → IsStageFor net task halved (half_step half id) between (types_after net.types halved (half_step half id) between) made
        → IsStageOf (at_node id (half_stage half between)) between (half_types half between) made
    half_is halved (halved_form.aggregate keys calls) id between made is = is
    half_is halved half id between made is = is

    -- with the first half of an operator behind them
    pub halves_made : (n : ℕ) (run : RunPlan) (half : HalvedForm) (own w : ℕ) (source : SourceForm) (steps : List StepForm) (stages : List Stage) → IsAt net.layout own source
        → (r : Into (half_step half) (RunsAs net.layout n run) own w source steps) → AreFor own steps stages
        → Behind (AreMadeFor net.links.names run (bells_in net.links task net.layout n run own w source r.1.0 r.1.2)) (at_node r.0 (half_stage half (types_of (tree_of_run run)))) stages
        (half_types half (types_of (tree_of_run run)))
    halves_made n run half own w source steps stages at r all =
        let a = are_through net.layout net.types typed n run own w source r.1.0 at r.1.2 in
        let s = last_stage own run (half_step half r.0) r.1.0 steps stages r.1.1 a.given all in
        record {
          before = s.before;
          last = s.last;
          between = types_of (tree_of_run run);
          are = s.are;
          input = are_made n run own w source r.1.0 s.before at r.1.2 s.fronts;
          is = half_is (net.types own).halved half r.0 (types_of (tree_of_run run)) (ghosts.as_made s.last) s.is;
        }
