-- All drivers of a pipeline together: how they go on, and what they gave where they are done.
use Rattle.std.proofs.Common.{◌≡◌, inl, ℕ, ◌<◌, List, [], ◌∷◌, ◌++◌, Bool, true, refl, sym, subst, ◌∙◌, append-nil}
use Rattle.col_pages.specs.Fits.{AllFit}
use Rattle.operator_core.specs.declared.operator.Operator.{Ghosts}
use Rattle.operator_core.specs.Rows.{Row}
use Rattle.operator_core.specs.Calls.{IsLawful}
use Rattle.operator_core.proofs.StageLemmas.{Steps-finished, finished-told}
use Rattle.bag_laws.specs.Laws.{TaskRows}
use Rattle.plan_trees.specs.Allowed.{strict}
use Rattle.plan_run_laws.specs.Nets.{AreFor, Lanes, Went, WentInto}
use Rattle.plan_run_laws.specs.Stages.{StagesMake, Makes, Stage}
use Rattle.plan_run_laws.specs.RunPlans.{RunPlan}
use Rattle.plan_run_laws.specs.Stops.{AllSet, AreOpen, StagesCanGoOn, Flags}
use Rattle.plan_run_laws.proofs.LaneLemmas.{chosen_lanes, only_stage}
use Rattle.stage_meanings.specs.Pipelines.{NodeStage, stages_of}
use Rattle.stage_meanings.proofs.MeaningLemmas.{all_make, stages-append}
use Rattle.pipe_laws.specs.Stopped.{AgreeWith, IsOpen}
use Rattle.pipe_laws.specs.Trees.{stages_over}
use Rattle.pipe_laws.proofs.FinishLemmas.{finish_all}
use Rattle.pipe_laws.proofs.OperatorLemmas.{opens_behind, stood_at}
use Rattle.pipe_laws.proofs.TreeLemmas.{are_for, in_task}
use Rattle.pipe_laws.specs.Lanes.{AreHalved, AreLanes, IsHalved, IsLane, Noted, notes_of_lanes}
use Rattle.pipe_laws.proofs.NoteLemmas.{agreed, builds_for}

module _ {S : Type 0} (g : Ghosts S) (laws : IsLawful g) where
  pub lane_open : (run : RunPlan) (notes : Noted) (all : List S) (took gave : List Row) (ended done : Bool) → IsLane g run notes all took gave ended done → IsOpen run notes took gave ended done
  lane_open run notes all took gave ended done lane =
      subst (IsOpen run notes took gave ended) lane.done_is (stood_at g laws run notes all lane.given lane.operate ended took gave lane.turns lane.linked lane.fit).0

  pub lane_fits : (run : RunPlan) (notes : Noted) (all : List S) (took gave : List Row) (ended done : Bool) → (lane : IsLane g run notes all took gave ended done) → AllFit lane.given gave
  lane_fits run notes all took gave ended done lane = (stood_at g laws run notes all lane.given lane.operate ended took gave lane.turns lane.linked lane.fit).1

  pub lanes_open : (n w : ℕ) (run : RunPlan) (notes : ℕ → ℕ → Noted) (all : ℕ → ℕ → List S) (took gave : Lanes) (ended done : Flags) → AreLanes g n w run notes all took gave ended done
      → AreOpen [] n w run (notes_of_lanes run notes) took gave ended done
  lanes_open n w run notes all took gave ended done lanes = λ k d lt less builds noted.
      let lane = lanes k d lt less in
      let agrees = agreed run notes builds k d lane.noted noted in
      let stages = stages_of (stages_over run (in_task k builds)) in (
        stages,
        are_for run builds k (builds_for run (notes k d) (in_task k builds) lane.noted agrees),
        subst (λ (p : List Stage). StagesCanGoOn p (took k d) (gave k d) (ended k d) (done k d)) (sym (append-nil stages))
            (lane_open run (notes k d) (all k d) (took k d) (gave k d) (ended k d) (done k d) lane (in_task k builds) agrees),
      )

  lane_made : (run : RunPlan) (notes : Noted) (builds : List (List Row)) (all : List S) (took gave : List Row) (ended done : Bool) → IsLane g run notes all took gave ended done → AgreeWith notes builds → done ≡ true
      → StagesMake strict (stages_of (stages_over run builds)) took gave
  lane_made run notes builds all took gave ended done lane agrees over =
      (finish_all g laws run notes builds all lane.given lane.operate agrees ended took gave lane.turns lane.linked lane.fit (lane.done_is ∙ over)).0

  pub lanes_made : (n w : ℕ) (run : RunPlan) (notes : ℕ → ℕ → Noted) (all : ℕ → ℕ → List S) (took gave : Lanes) (ended done : Flags) (builds : List TaskRows) → AreLanes g n w run notes all took gave ended done
      → AllSet n w done → ((k d : ℕ) → k < n → d < w → AgreeWith (notes k d) (in_task k builds)) → Went strict n w run builds took gave
  lanes_made n w run notes all took gave ended done builds lanes over agree = λ k d lt less.
      let lane = lanes k d lt less in (
        stages_of (stages_over run (in_task k builds)),
        are_for run builds k (builds_for run (notes k d) (in_task k builds) lane.noted (agree k d lt less)),
        lane_made run (notes k d) (in_task k builds) (all k d) (took k d) (gave k d) (ended k d) (done k d) lane (agree k d lt less) (over k d lt less),
      )

  -- one driver with a first half behind its node's operators
  half_open : (run : RunPlan) (notes : Noted) (half : NodeStage) (all : List S) (took gave : List Row) (ended done : Bool) → IsHalved g run notes half all took gave ended done
      → (builds : List (List Row)) → AgreeWith notes builds → StagesCanGoOn (stages_of (stages_over run builds) ++ half.stage ∷ []) took gave ended done
  half_open run notes half all took gave ended done h builds agrees =
      let pipeline = stages_over run builds in
      subst (λ (p : List Stage). StagesCanGoOn p took gave ended done) (stages-append pipeline (half ∷ []))
      (subst (StagesCanGoOn (stages_of (pipeline ++ half ∷ [])) took gave ended) h.done_is
      (opens_behind g laws pipeline half h.last (g.as_made h.last) h.lane.given h.given h.means (inl refl) took h.came gave ended h.told h.turn h.steps
      (lane_fits run notes h.before took h.came ended h.told h.lane) (lane_open run notes h.before took h.came ended h.told h.lane builds agrees)))

  pub halves_open : (n w : ℕ) (run : RunPlan) (notes : ℕ → ℕ → Noted) (half : NodeStage) (all : ℕ → ℕ → List S) (took gave : Lanes) (ended done : Flags)
      → AreHalved g n w run notes half all took gave ended done → AreOpen (half.stage ∷ []) n w run (notes_of_lanes run notes) took gave ended done
  halves_open n w run notes half all took gave ended done halves = λ k d lt less builds noted.
      let h = halves k d lt less in
      let agrees = agreed run notes builds k d h.lane.noted noted in (
        stages_of (stages_over run (in_task k builds)),
        are_for run builds k (builds_for run (notes k d) (in_task k builds) h.lane.noted agrees),
        half_open run (notes k d) half (all k d) (took k d) (gave k d) (ended k d) (done k d) h (in_task k builds) agrees,
      )

  -- what came to a first half that is done, and what it made of it
  half_made : (run : RunPlan) (notes : Noted) (half : NodeStage) (all : List S) (took gave : List Row) (ended done : Bool) → (h : IsHalved g run notes half all took gave ended done) → done ≡ true
      → (h.told ≡ true) × Makes strict half.stage h.came gave
  half_made run notes half all took gave ended done h over =
      let finished : g.is_finished h.last ≡ true = h.done_is ∙ over in
      let f = Steps-finished g laws h.last h.came gave finished h.steps in
      let one = all_make g (g.as_made h.last ∷ []) h.lane.given h.given (half ∷ []) (half ∷ [], [], h.given, refl, h.means, (refl, refl)) h.came gave
      (lane_fits run notes h.before took h.came ended h.told h.lane) (gave, f.0, (λ e. f.1), refl) in
      (h.turn (finished-told g laws h.last finished), only_stage strict half.stage (half.stage ∷ []) h.came gave refl one.0)

  pub halves_made : (n w : ℕ) (run : RunPlan) (notes : ℕ → ℕ → Noted) (half : NodeStage) (all : ℕ → ℕ → List S) (took gave : Lanes) (ended done : Flags) (builds : List TaskRows)
      → AreHalved g n w run notes half all took gave ended done → AllSet n w done → ((k d : ℕ) → k < n → d < w → AgreeWith (notes k d) (in_task k builds))
      → WentInto half.stage strict n w run builds took gave
  halves_made n w run notes half all took gave ended done builds halves over agree =
      let between = chosen_lanes Between n w each in (between.0, (λ k d lt less. (between.1 k d lt less).0), (λ k d lt less. (between.1 k d lt less).1))
    where
      Between : ℕ → ℕ → List Row → Type 0
      Between k d rows = ((stages : List Stage) × AreFor run builds k stages × StagesMake strict stages (took k d) rows) × Makes strict half.stage rows (gave k d)

      each : (k d : ℕ) → k < n → d < w → (rows : List Row) × Between k d rows
      each k d lt less =
          let h = halves k d lt less in
          let m = half_made run (notes k d) half (all k d) (took k d) (gave k d) (ended k d) (done k d) h (over k d lt less) in (
            h.came,
            (
              (
                stages_of (stages_over run (in_task k builds)),
                are_for run builds k (builds_for run (notes k d) (in_task k builds) h.lane.noted (agree k d lt less)),
                lane_made run (notes k d) (in_task k builds) h.before (took k d) h.came (ended k d) h.told h.lane (agree k d lt less) m.0,
              ),
              m.1,
            ),
          )
