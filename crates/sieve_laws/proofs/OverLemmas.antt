-- Pipes that are over gave what the plan's tree allows, whatever rows without a partner their scans lost.
use Rattle.std.proofs.Common.{◌≡◌, ℕ, ◌<◌, zero, suc, List, [], ◌∷◌, ◌++◌, Bool, Option, Some, None, refl, sym, subst, append-nil, arith}
use Rattle.sql_values.specs.declared.types.SqlType.{SqlType}
use Rattle.sql_values.specs.ColumnRows.{fits_row}
use Rattle.col_pages.specs.Fits.{AllFit}
use Rattle.page_processor.proofs.FilterLemmas.{first_fits, rest_fits}
use Rattle.operator_core.specs.declared.operator.Operator.{Ghosts}
use Rattle.operator_core.specs.Rows.{Row}
use Rattle.operator_core.specs.Calls.{IsLawful}
use Rattle.bag_laws.specs.Buckets.{Sits}
use Rattle.bag_laws.specs.Gather.{gather}
use Rattle.bag_laws.specs.Laws.{TaskRows}
use Rattle.bag_laws.specs.Weights.{SameWeights}
use Rattle.bag_laws.proofs.BagLemmas.{same-from_equal, same-refl, same-sym, same-trans}
use Rattle.bag_laws.proofs.BucketLemmas.{sits-append, sits-cons, sits-nil}
use Rattle.plan_trees.specs.Allowed.{strict, width_of}
use Rattle.plan_trees.specs.TreeTypes.{types_of}
use Rattle.column_origins.specs.Origins.{left_column}
use Rattle.plan_run_laws.specs.Nets.{Lanes, Pipe, Went, WentInto, of_tasks}
use Rattle.plan_run_laws.specs.Stages.{first_half}
use Rattle.plan_run_laws.specs.RunPlans.{Output, RunPlan, tree_of_run, scan, values, remote, step, halves, join, union}
use Rattle.plan_run_laws.specs.Runs.{EdgePassed}
use Rattle.plan_run_laws.specs.Spreads.{Tables}
use Rattle.plan_run_laws.specs.Stops.{AllSet, Flags, Hop, IsNoted, PassedSoFar, StoppedPipe}
use Rattle.pipe_laws.specs.Stopped.{AgreeWith}
use Rattle.pipe_laws.proofs.TreeLemmas.{in_task}
use Rattle.pipe_laws.specs.Pipelines.{NodeStage, at_node}
use Rattle.pipe_laws.specs.Lanes.{HasNotes, Noted, first_note, other_notes}
use Rattle.pipe_laws.proofs.LaneLemmas.{halves_made, lanes_made}
use Rattle.pipe_laws.proofs.NoteLemmas.{has_others, join_agrees, none_agree}
use Rattle.pipe_laws.specs.Pipes.{AreOver, IsHalfPipeOf, IsPipeOf, PipeState, stopped}
use Rattle.lost_row_laws.specs.Nets.{BelowLosing}
use Rattle.lost_row_laws.specs.Sieves.{Sieve, over_input, under}
use Rattle.sieve_laws.specs.LosingPipes.{StandsLosing}

-- where a hop is over, all that was put was taken
hop_over : {put took : List Row} {IsOver HasClosed : Type 0} → Hop put took IsOver HasClosed → IsOver → SameWeights put took
hop_over {took = took} hop over =
    same-sym (same-trans (same-from_equal (sym (append-nil took))) (subst (λ (left : List Row). SameWeights (took ++ left) _) (hop.all over) hop.some))

passed_all : (output : Output) (m n : ℕ) (p : StoppedPipe) (w : ℕ) (took : Lanes) (ended : Flags) → AllSet n w ended → PassedSoFar output m n p w took ended
    → EdgePassed output m n (of_tasks p.drivers p.gave) (of_tasks w took)
passed_all output m n p w took ended over passed = λ k lt. hop_over (passed k lt) (λ d less. over k d lt less)

-- the rows that a note knows are those of the pipe that built them
noted_is : (noted : Option (List Row)) (build : List Row) → ((built : List Row) → noted ≡ Some built → SameWeights build built) → IsNoted noted build
noted_is None build known = tt
noted_is (Some rows) build known = known rows refl

-- rows that fit some types, one by one and from all tasks
pub fitting : (types : List SqlType) (rows : List Row) → AllFit types rows → Sits (fits_row types) rows
fitting types [] fit = sits-nil (fits_row types)
fitting types (row ∷ rows) fit = sits-cons (fits_row types) row rows (first_fits types row rows fit) (fitting types rows (rest_fits types row rows fit))

sits-gather : (test : Row → Bool) (n : ℕ) (lists : ℕ → List Row) → ((k : ℕ) → k < n → Sits test (lists k)) → Sits test (gather n lists)
sits-gather test zero lists each = sits-nil test
sits-gather test (suc n) lists each = sits-append test (gather n lists) (lists n) (sits-gather test n lists (λ k lt. each k (omega (arith, lt)))) (each n (omega arith))

module _ {S : Type 0} (g : Ghosts S) (laws : IsLawful g) (pipes : ℕ → PipeState S) (own : ℕ → List Sieve) (tables : Tables) (over : AreOver pipes) where
  -- what the joins along the left sides built, and that all pipes below took and gave all
  record IsWhole (sieves : List Sieve) (at n : ℕ) (run : RunPlan) (notes : ℕ → ℕ → Noted) : Type 0 where
    builds : List TaskRows
    below : BelowLosing strict tables sieves n (pipes at).drivers run builds (pipes at).took
    agree : (k d : ℕ) → k < n → d < (pipes at).drivers → HasNotes run (notes k d) → AgreeWith (notes k d) (in_task k builds)

  all_ended : (at n : ℕ) → (pipes at).tasks ≡ n → AllSet n (pipes at).drivers (pipes at).ended
  all_ended at n is = subst (λ (m : ℕ). AllSet m (pipes at).drivers (pipes at).ended) is (λ k d lt less. (over at k d lt less).0)

  all_done : (at n : ℕ) → (pipes at).tasks ≡ n → AllSet n (pipes at).drivers (pipes at).done
  all_done at n is = subst (λ (m : ℕ). AllSet m (pipes at).drivers (pipes at).done) is (λ k d lt less. (over at k d lt less).1)

  pipe_went : (sieves : List Sieve) (j n : ℕ) (run : RunPlan) → IsPipeOf g n run (pipes j) → (w : IsWhole sieves j n run (pipes j).notes) → Went strict n (pipes j).drivers run w.builds (pipes j).took (pipes j).gave
  pipe_went sieves j n run is w =
      lanes_made g laws n (pipes j).drivers run (pipes j).notes (pipes j).stages (pipes j).took (pipes j).gave (pipes j).ended (pipes j).done w.builds is.lanes (all_done j n is.tasks)
      (λ k d lt less. w.agree k d lt less (is.lanes k d lt less).noted)

  half_pipe_went : (j n : ℕ) (run : RunPlan) (half : NodeStage) → IsHalfPipeOf g n run half (pipes j) → (w : IsWhole [] j n run (pipes j).notes)
      → WentInto half.stage strict n (pipes j).drivers run w.builds (pipes j).took (pipes j).gave
  half_pipe_went j n run half is w =
      halves_made g laws n (pipes j).drivers run (pipes j).notes half (pipes j).stages (pipes j).took (pipes j).gave (pipes j).ended (pipes j).done w.builds is.halves (all_done j n is.tasks)
      (λ k d lt less. w.agree k d lt less (is.halves k d lt less).lane.noted)

  abbrev piped : (j : ℕ) → List TaskRows → Pipe
  piped j builds = record { drivers = (pipes j).drivers; builds = builds; took = (pipes j).took; gave = (pipes j).gave }

  -- a source without joins has no notes
  leaf : (sieves : List Sieve) (at n : ℕ) (run : RunPlan) (notes : ℕ → ℕ → Noted) → ((ns : Noted) → HasNotes run ns → ns ≡ []) → BelowLosing strict tables sieves n (pipes at).drivers run [] (pipes at).took
      → IsWhole sieves at n run notes
  leaf sieves at n run notes none below = record { builds = []; below = below; agree = λ k d lt less has. none_agree (notes k d) [] (none (notes k d) has) }

  whole : (sieves : List Sieve) (at n : ℕ) → (pipes at).tasks ≡ n → (run : RunPlan) (notes : ℕ → ℕ → Noted) → StandsLosing g pipes own tables sieves at n run notes
      → IsWhole sieves at n run notes
  whole sieves at n is (scan id table columns types) notes stands =
      leaf sieves at n (scan id table columns types) notes (λ ns none. none) (stands.0, same-sym (hop_over stands.1 (all_ended at n is)), stands.2)
  whole sieves at n is (values id types rows) notes stands =
      leaf sieves at n (values id types rows) notes (λ ns none. none) (λ k lt. same-sym (hop_over (stands k lt) (λ d less. all_ended at n is k d lt less)))
  whole sieves at n is (remote id output m input) notes (j, pipe, below, passed) =
      let w = whole sieves j m pipe.tasks input (pipes j).notes below in
      leaf sieves at n (remote id output m input) notes (λ ns none. none)
      (piped j w.builds, w.below, pipe_went sieves j m input pipe w, passed_all output m n (stopped input (pipes j)) (pipes at).drivers (pipes at).took (pipes at).ended (all_ended at n is) passed)
  whole sieves at n is (step id s input) notes stands =
      let w = whole (under (types_of (tree_of_run input)) s sieves) at n is input notes stands.1 in record { builds = w.builds; below = (stands.0, w.below); agree = w.agree }
  whole sieves at n is (join id kind on left right) notes (j, pipe, below, known, sure, fit, rest) =
      let r = whole [] j n pipe.tasks right (pipes j).notes below in
      let l = whole (over_input (left_column kind (width_of (tree_of_run left))) (own id ++ sieves)) at n is left (λ k d. other_notes (notes k d)) rest in
      let build : TaskRows = λ (k : ℕ). of_tasks (pipes j).drivers (pipes j).gave k in
      record {
        builds = build ∷ l.builds;
        below = (
          own id,
          piped j r.builds,
          r.below,
          pipe_went [] j n right pipe r,
          λ k lt. same-refl (build k),
          λ a held. (sure a held).1,
          λ k lt. sits-gather (fits_row (types_of (tree_of_run right))) (pipes j).drivers ((pipes j).gave k) (λ d less. fitting (types_of (tree_of_run right)) ((pipes j).gave k d) (fit k d lt less)),
          l.below,
        );
        agree = λ k d lt less has.
            join_agrees id kind on left right (notes k d) (build k) (in_task k l.builds) has
            (noted_is (first_note (notes k d)) (build k) (λ built told. (known k d lt less built told).1))
            (l.agree k d lt less (has_others id kind on left right (notes k d) has));
      }
  whole sieves at n is (halves id source output m h input) notes (j, half, alone, pipe, below, passed) =
      let w = whole [] j m pipe.tasks input (pipes j).notes below in
      leaf sieves at n (halves id source output m h input) notes (λ ns none. none) (
        piped j w.builds,
        alone,
        w.below,
        half_pipe_went j m input (at_node half (first_half (types_of (tree_of_run input)) h)) pipe w,
        passed_all output m n (stopped input (pipes j)) (pipes at).drivers (pipes at).took (pipes at).ended (all_ended at n is) passed,
      )
  whole sieves at n is (union id left right) notes (i, j, first, left_below, second, right_below, passed) =
      let l = whole [] i n first.tasks left (pipes i).notes left_below in
      let r = whole [] j n second.tasks right (pipes j).notes right_below in
      leaf sieves at n (union id left right) notes (λ ns none. none) (
        piped i l.builds,
        piped j r.builds,
        l.below,
        pipe_went [] i n left first l,
        r.below,
        pipe_went [] j n right second r,
        λ k lt. hop_over (passed k lt) (λ d less. all_ended at n is k d lt less),
      )

  -- what the joins along the left sides of a pipe built, what it took, and what its drivers gave
  pub record GaveWhole (sieves : List Sieve) (at n : ℕ) (run : RunPlan) : Type 0 where
    pub builds : List TaskRows
    pub below : BelowLosing strict tables sieves n (pipes at).drivers run builds (pipes at).took
    pub went : Went strict n (pipes at).drivers run builds (pipes at).took (pipes at).gave

  pub gave_whole : (sieves : List Sieve) (at n : ℕ) (run : RunPlan) → IsPipeOf g n run (pipes at) → StandsLosing g pipes own tables sieves at n run (pipes at).notes → GaveWhole sieves at n run
  gave_whole sieves at n run is stands =
      let w = whole sieves at n is.tasks run (pipes at).notes stands in
      record { builds = w.builds; below = w.below; went = pipe_went sieves at n run is w }

  -- of the root's pipe
  pub gave_root : (root : ℕ) (run : RunPlan) → IsPipeOf g 1 run (pipes root) → StandsLosing g pipes own tables [] root 1 run (pipes root).notes → GaveWhole [] root 1 run
  gave_root root run is stands = gave_whole [] root 1 run is stands
