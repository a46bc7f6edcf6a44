-- The stages of the steps of a pipe, one more behind the others.
use Rattle.std.proofs.Common.{Result, Ok, Err, IfOk, ◌≡◌, ℕ, List, [], ◌∷◌, ◌++◌, map, refl, ap, sym, subst, ◌∙◌, append_assoc, append-nil}
use Rattle.std.specs.Prelude.{Some}
use Rattle.std.proofs.lemmas.List.{map-append}
use Rattle.sql_values.specs.declared.types.SqlType.{SqlType}
use Rattle.sql_values.specs.declared.relational.Call.{Call}
use Rattle.sql_values.specs.declared.relational.JoinKind.{JoinKind}
use Rattle.hash_join.specs.Cells.{CellState}
use Rattle.plan_run_laws.specs.Stages as stage
use Rattle.plan_trees.specs.Layouts.{partial_types}
use Rattle.plan_trees.specs.declared.tree.Pair.{Pair}
use Rattle.plan_trees.specs.TreeForms.{pair_view}
use Rattle.stage_meanings.specs.Pipelines.{at_node}
use Rattle.driver_net_laws.specs.Cells.{IsNamed, Names}
use Rattle.driver_net_laws.specs.Stages.{IsStageOf, ProbesFor}
use Rattle.driver_loop.specs.declared.stage.Stage.{Stage}
use Rattle.driver_loop.specs.contracts.stage.StageOperator.TheImpl.{ghosts}
use Rattle.plan_layout.specs.Pipes.{StepForm, probe, partial}
use Rattle.driver_net_laws.specs.Makes.{StepsFit}
use Rattle.driver_net_laws.specs.Nets.{AreStagesFor, IsStageFor, NetForm}
use Rattle.driver_net_laws.specs.Types.{types_after}
use Rattle.pipe_stages.specs.declared.table.PipeTypes.{PipeTypes}
use Rattle.pipe_stages.specs.Tables.{types_in}
use Rattle.pipe_stages.specs.Cells.{HasCells, cell_at}

module _ (table : List PipeTypes) (cells : List (List CellState)) (task : ℕ) (halved : List SqlType) where
  -- the stage is that of the step in each net that has these types and cells
  abbrev pub IsStage : StepForm → List SqlType → Stage → Type 0
  IsStage step between s = (net : NetForm) → net.types ≡ types_in table → HasCells net.links cells
      → IsStageFor net task halved step between (types_after net.types halved step between) s

  pub probe_answer : {E : Type 0} (r : Result Stage E) (between : List SqlType) (step : StepForm) (id : ℕ) (kind : JoinKind) (on : List Pair) (at : ℕ) (cell : CellState)
      → step ≡ probe id kind on at → cell_at cells at task ≡ Some cell
      → IfOk r (λ (s : Stage). (names : Names) → IsNamed names cell → ProbesFor names cell.bell kind (map pair_view on) s) → IfOk r (IsStage step between)
  probe_answer (Ok s) between step id kind on at cell is there probes = λ net typed has.
      subst (λ (st : StepForm). IsStageFor net task halved st between (types_after net.types halved st between) s) (sym is)
      (record {
        probes = subst (λ (bell : ℕ). ProbesFor net.links.names bell kind (map pair_view on) s) (sym (has at task cell there).0) (probes net.links.names (has at task cell there).1);
        types = refl;
      })
  probe_answer (Err e) between step id kind on at cell is there probes = tt

  pub partial_answer : {E : Type 0} (r : Result Stage E) (between : List SqlType) (step : StepForm) (id : ℕ) (keys : List ℕ) (calls : List Call) → step ≡ partial id keys calls
      → IfOk r (λ (s : Stage). (id : ℕ) → IsStageOf (at_node id (stage.partial keys calls)) between (partial_types between keys calls) s) → IfOk r (IsStage step between)
  partial_answer (Ok s) between step id keys calls is means = λ net typed has.
      subst (λ (st : StepForm). IsStageFor net task halved st between (types_after net.types halved st between) s) (sym is) (means id)
  partial_answer (Err e) between step id keys calls is means = tt

  -- of all steps these are left, over rows of the types `between`
  pub record SoFar (taken : List SqlType) (all left : List StepForm) (between : List SqlType) (stages : List Stage) : Type 0 where
    pub fits : StepsFit (types_in table) halved left between
    pub made : map ghosts.as_made stages ≡ stages
    pub are : (net : NetForm) → net.types ≡ types_in table → HasCells net.links cells → (more : List Stage) → AreStagesFor net task halved left between more
        → AreStagesFor net task halved all taken (stages ++ more)

  pub none_made : (taken : List SqlType) (all : List StepForm) → StepsFit (types_in table) halved all taken → SoFar taken all all taken []
  none_made taken all fits = record { fits = fits; made = refl; are = λ net typed has more stand. stand }

  pub one_made : (taken : List SqlType) (all left : List StepForm) (between : List SqlType) (stages : List Stage) (step : StepForm) (s : Stage) (next : List SqlType)
      → SoFar taken all (step ∷ left) between stages → IsStage step between s → ghosts.as_made s ≡ s → next ≡ types_after (types_in table) halved step between
      → SoFar taken all left next (stages ++ s ∷ [])
  one_made taken all left between stages step s next before is made types = record {
    fits = subst (StepsFit (types_in table) halved left) (sym types) before.fits.1;
    made = map-append ghosts.as_made stages (s ∷ []) ∙ ap (λ ss. ss ++ ghosts.as_made s ∷ []) before.made ∙ ap (λ m. stages ++ m ∷ []) made;
    are = λ net typed has more stand.
        let after : next ≡ types_after net.types halved step between = types ∙ ap (λ (t : ℕ → _). types_after t halved step between) (sym typed) in
        let own = subst (λ (m : Stage). IsStageFor net task halved step between (types_after net.types halved step between) m) (sym made) (is net typed has) in
        let rest = subst (λ (ts : List SqlType). AreStagesFor net task halved left ts more) after stand in
        subst (AreStagesFor net task halved all taken) (sym (append_assoc stages (s ∷ []) more)) (before.are net typed has (s ∷ more) (own, rest));
  }

  pub all_made : (taken : List SqlType) (all left : List StepForm) (between : List SqlType) (stages : List Stage) → left ≡ [] → SoFar taken all left between stages
      → (net : NetForm) → net.types ≡ types_in table → HasCells net.links cells → AreStagesFor net task halved all taken stages
  all_made taken all left between stages none made net typed has =
      subst (AreStagesFor net task halved all taken) (append-nil stages)
      (made.are net typed has [] (subst (λ (ss : List StepForm). AreStagesFor net task halved ss between []) (sym none) refl))
