-- Pipes that are over gave what the plan's tree allows.
use Rattle.std.proofs.Common.{◌≡◌, ℕ, ◌<◌, List, [], ◌∷◌, ◌++◌, Option, Some, None, refl, sym, subst, append-nil}
use Rattle.operator_core.specs.declared.operator.Operator.{Ghosts}
use Rattle.operator_core.specs.Rows.{Row}
use Rattle.operator_core.specs.Calls.{IsLawful}
use Rattle.bag_laws.specs.Laws.{TaskRows}
use Rattle.bag_laws.specs.Weights.{SameWeights}
use Rattle.bag_laws.proofs.BagLemmas.{same-from_equal, same-refl, same-sym, same-trans}
use Rattle.plan_trees.specs.Allowed.{strict}
use Rattle.plan_trees.specs.TreeTypes.{types_of}
use Rattle.plan_run_laws.specs.Nets.{Below, Lanes, Pipe, Went, WentInto, of_tasks}
use Rattle.plan_run_laws.specs.Stages.{first_half}
use Rattle.plan_run_laws.specs.RunPlans.{Output, RunPlan, scan, values, remote, step, halves, join, union, tree_of_run}
use Rattle.plan_run_laws.specs.Runs.{EdgePassed}
use Rattle.plan_run_laws.specs.Spreads.{Tables}
use Rattle.plan_run_laws.specs.Stops.{AllSet, Flags, Hop, IsNoted, PassedSoFar, StoppedPipe}
use Rattle.pipe_laws.specs.Stopped.{AgreeWith}
use Rattle.pipe_laws.proofs.TreeLemmas.{in_task}
use Rattle.stage_meanings.specs.Pipelines.{NodeStage, at_node}
use Rattle.pipe_laws.specs.Lanes.{HasNotes, Noted, first_note, other_notes}
use Rattle.pipe_laws.proofs.LaneLemmas.{halves_made, lanes_made}
use Rattle.pipe_laws.proofs.NoteLemmas.{has_others, join_agrees, none_agree}
use Rattle.pipe_laws.specs.Pipes.{AreOver, IsHalfPipeOf, IsPipeOf, PipeState, Stands, stopped}

-- where a hop is over, all that was put was taken
hop_over : {put took : List Row} {IsOver HasClosed : Type 0} → Hop put took IsOver HasClosed → IsOver → SameWeights put took
hop_over {took = took} hop over =
    same-sym (same-trans (same-from_equal (sym (append-nil took))) (subst (λ (left : List Row). SameWeights (took ++ left) _) (hop.all over) hop.some))

passed_all : (output : Output) (m n : ℕ) (p : StoppedPipe) (w : ℕ) (took : Lanes) (ended : Flags) → AllSet n w ended → PassedSoFar output m n p w took ended
    → EdgePassed output m n (of_tasks p.drivers p.gave) (of_tasks w took)
passed_all output m n p w took ended over passed = λ k lt. hop_over (passed k lt) (λ d less. over k d lt less)

-- the rows that a note knows are those of the pipe that built them
noted_is : (noted : Option (List Row)) (build : List Row) → ((built : List Row) → noted ≡ Some built → SameWeights build built) → IsNoted noted build
noted_is None build known = tt
noted_is (Some rows) build known = known rows refl

module _ {S : Type 0} (g : Ghosts S) (laws : IsLawful g) (pipes : ℕ → PipeState S) (tables : Tables) (over : AreOver pipes) where
  -- what the joins along the left sides built, and that all pipes below took and gave all
  record IsWhole (at n : ℕ) (run : RunPlan) (notes : ℕ → ℕ → Noted) : Type 0 where
    builds : List TaskRows
    below : Below strict tables n (pipes at).drivers run builds (pipes at).took
    agree : (k d : ℕ) → k < n → d < (pipes at).drivers → HasNotes run (notes k d) → AgreeWith (notes k d) (in_task k builds)

  all_ended : (at n : ℕ) → (pipes at).tasks ≡ n → AllSet n (pipes at).drivers (pipes at).ended
  all_ended at n is = subst (λ (m : ℕ). AllSet m (pipes at).drivers (pipes at).ended) is (λ k d lt less. (over at k d lt less).0)

  all_done : (at n : ℕ) → (pipes at).tasks ≡ n → AllSet n (pipes at).drivers (pipes at).done
  all_done at n is = subst (λ (m : ℕ). AllSet m (pipes at).drivers (pipes at).done) is (λ k d lt less. (over at k d lt less).1)

  pipe_went : (j n : ℕ) (run : RunPlan) → IsPipeOf g n run (pipes j) → (w : IsWhole j n run (pipes j).notes) → Went strict n (pipes j).drivers run w.builds (pipes j).took (pipes j).gave
  pipe_went j n run is w =
      lanes_made g laws n (pipes j).drivers run (pipes j).notes (pipes j).stages (pipes j).took (pipes j).gave (pipes j).ended (pipes j).done w.builds is.lanes (all_done j n is.tasks)
      (λ k d lt less. w.agree k d lt less (is.lanes k d lt less).noted)

  half_pipe_went : (j n : ℕ) (run : RunPlan) (half : NodeStage) → IsHalfPipeOf g n run half (pipes j) → (w : IsWhole j n run (pipes j).notes)
      → WentInto half.stage strict n (pipes j).drivers run w.builds (pipes j).took (pipes j).gave
  half_pipe_went j n run half is w =
      halves_made g laws n (pipes j).drivers run (pipes j).notes half (pipes j).stages (pipes j).took (pipes j).gave (pipes j).ended (pipes j).done w.builds is.halves (all_done j n is.tasks)
      (λ k d lt less. w.agree k d lt less (is.halves k d lt less).lane.noted)

  abbrev piped : (j : ℕ) → List TaskRows → Pipe
  piped j builds = record { drivers = (pipes j).drivers; builds = builds; took = (pipes j).took; gave = (pipes j).gave }

  -- a source without joins has no notes
  leaf : (at n : ℕ) (run : RunPlan) (notes : ℕ → ℕ → Noted) → ((ns : Noted) → HasNotes run ns → ns ≡ []) → Below strict tables n (pipes at).drivers run [] (pipes at).took → IsWhole at n run notes
  leaf at n run notes none below = record { builds = []; below = below; agree = λ k d lt less has. none_agree (notes k d) [] (none (notes k d) has) }

  whole : (at n : ℕ) → (pipes at).tasks ≡ n → (run : RunPlan) (notes : ℕ → ℕ → Noted) → Stands g pipes tables at n run notes → IsWhole at n run notes
  whole at n is (scan id table columns types) notes stands =
      leaf at n (scan id table columns types) notes (λ ns none. none) (same-sym (hop_over stands (all_ended at n is)))
  whole at n is (values id types rows) notes stands =
      leaf at n (values id types rows) notes (λ ns none. none) (λ k lt. same-sym (hop_over (stands k lt) (λ d less. all_ended at n is k d lt less)))
  whole at n is (remote id output m input) notes (j, pipe, below, passed) =
      let w = whole j m pipe.tasks input (pipes j).notes below in
      leaf at n (remote id output m input) notes (λ ns none. none)
      (piped j w.builds, w.below, pipe_went j m input pipe w, passed_all output m n (stopped input (pipes j)) (pipes at).drivers (pipes at).took (pipes at).ended (all_ended at n is) passed)
  whole at n is (join id kind on left right) notes (j, pipe, below, known, rest) =
      let r = whole j n pipe.tasks right (pipes j).notes below in
      let l = whole at n is left (λ k d. other_notes (notes k d)) rest in
      let build : TaskRows = λ (k : ℕ). of_tasks (pipes j).drivers (pipes j).gave k in
      record {
        builds = build ∷ l.builds;
        below = (piped j r.builds, r.below, pipe_went j n right pipe r, (λ k lt. same-refl (build k)), l.below);
        agree = λ k d lt less has.
            join_agrees id kind on left right (notes k d) (build k) (in_task k l.builds) has
            (noted_is (first_note (notes k d)) (build k) (λ built told. (known k d lt less built told).1))
            (l.agree k d lt less (has_others id kind on left right (notes k d) has));
      }
  whole at n is (step id s input) notes stands =
      let w = whole at n is input notes stands.1 in record { builds = w.builds; below = (stands.0, w.below); agree = w.agree }
  whole at n is (halves id source output m h input) notes (j, half, alone, pipe, below, passed) =
      let w = whole j m pipe.tasks input (pipes j).notes below in
      leaf at n (halves id source output m h input) notes (λ ns none. none) (
        piped j w.builds,
        alone,
        w.below,
        half_pipe_went j m input (at_node half (first_half (types_of (tree_of_run input)) h)) pipe w,
        passed_all output m n (stopped input (pipes j)) (pipes at).drivers (pipes at).took (pipes at).ended (all_ended at n is) passed,
      )
  whole at n is (union id left right) notes (i, j, first, left_below, second, right_below, passed) =
      let l = whole i n first.tasks left (pipes i).notes left_below in
      let r = whole j n second.tasks right (pipes j).notes right_below in
      leaf at n (union id left right) notes (λ ns none. none) (
        piped i l.builds,
        piped j r.builds,
        l.below,
        pipe_went i n left first l,
        r.below,
        pipe_went j n right second r,
        λ k lt. hop_over (passed k lt) (λ d less. all_ended at n is k d lt less),
      )

  -- the pipe of the root, with one driver
  pub record GaveRoot (root : ℕ) (run : RunPlan) : Type 0 where
    pub builds : List TaskRows
    pub below : Below strict tables 1 (pipes root).drivers run builds (pipes root).took
    pub went : Went strict 1 (pipes root).drivers run builds (pipes root).took (pipes root).gave

  pub gave_root : (root : ℕ) (run : RunPlan) → IsPipeOf g 1 run (pipes root) → Stands g pipes tables root 1 run (pipes root).notes → GaveRoot root run
  gave_root root run is stands =
      let w = whole root 1 is.tasks run (pipes root).notes stands in
      record { builds = w.builds; below = w.below; went = pipe_went root 1 run is w }
