-- A stopped run whose scans lost rows is the beginning of a whole one that leaves out what fails.
use Rattle.std.proofs.Common.{◌≡◌, ℕ, ◌<◌, List, [], ◌∷◌, ◌++◌, true, refl, ap, ◌∙◌, arith}
use Rattle.std.specs.Prelude.{filter}
use Rattle.std.proofs.lemmas.List.{append-nil}
use Rattle.std.proofs.lemmas.List.Sums.{sum_by-append}
use Rattle.sql_values.specs.declared.value.Value.{Value}
use Rattle.bag_laws.specs.Gather.{gather}
use Rattle.bag_laws.specs.Weights.{SameWeights}
use Rattle.bag_laws.proofs.BagLemmas.{same-append, same-exchange, same-from_equal, same-refl, same-sym, same-trans}
use Rattle.bag_laws.proofs.GatherLemmas.{same-gather_append}
use Rattle.plan_trees.specs.Allowed.{skipping}
use Rattle.plan_run_laws.specs.Nets.{AreFor, Lanes, of_tasks}
use Rattle.plan_run_laws.specs.Stages.{Stage, StagesMake, first_half}
use Rattle.plan_run_laws.specs.RunPlans.{Output, RunPlan, single, hashed, broadcast}
use Rattle.plan_run_laws.specs.RunPlans as plan
use Rattle.plan_run_laws.specs.Runs.{sent}
use Rattle.plan_run_laws.specs.Stops.{AreOpen, Flags, StoppedPipe, MayCome, Notes, PassedSoFar}
use Rattle.plan_run_laws.specs.Wholes.{longer}
use Rattle.plan_run_laws.proofs.DealLemmas.{Fed, deal_out, fed}
use Rattle.plan_run_laws.proofs.ExtendLemmas.{Rest, all_passed, none_noted, noted_build, passed_on, pipe_of, rest_into, rest_went, same-longer, task_nothing}
use Rattle.plan_run_laws.proofs.LaneLemmas.{chosen_lanes}
use Rattle.lost_row_laws.specs.Runs.{AreAlone}
use Rattle.lost_row_laws.specs.Sieves.{Sieve, fits_in, over_input, under}
use Rattle.lost_row_laws.specs.Stops.{AreSure, StopsLosing, WholeLosing}
use Rattle.sql_values.specs.declared.types.SqlType.{SqlType}
use Rattle.relation_laws.specs.Joins.{are_partners}
use Rattle.bag_laws.specs.Buckets.{Sits}
use Rattle.bag_laws.proofs.BucketLemmas.{sits-cons, sits-nil}
use Rattle.bag_laws.proofs.GatherLemmas.{gather-agree}
use Rattle.plan_trees.specs.Allowed.{width_of}
use Rattle.plan_trees.specs.TreeTypes.{types_of}
use Rattle.column_origins.specs.Origins.{left_column}
use Rattle.plan_run_laws.specs.RunPlans.{tree_of_run}

-- some rows with others in their middle
same-aside : (A B C : List (List Value)) → SameWeights ((A ++ B) ++ C) ((A ++ C) ++ B)
same-aside A B C = record { weighs = λ h. omega (arith, sum_by-append h (A ++ B) C, sum_by-append h A B, sum_by-append h (A ++ C) B, sum_by-append h A C) }

-- where rows that fail are left out none has to fit
all_fit : (types : List SqlType) (rows : List (List Value)) → Sits (fits_in skipping types) rows
all_fit types [] = sits-nil (fits_in skipping types)
all_fit types (row ∷ rows) = sits-cons (fits_in skipping types) row rows refl (all_fit types rows)

-- what has no partner in a right side that is whole has none in the end
alone_then : (on : List (ℕ × ℕ)) (n : ℕ) (g : StoppedPipe) (own : List Sieve) (rest : Lanes)
    → ((k d : ℕ) → k < n → d < g.drivers → MayCome (g.done k d) (rest k d)) → AreSure on n g own
    → AreAlone on (gather n (of_tasks g.drivers (longer g.gave rest))) own
alone_then on n g own rest none sure a h =
    let known = sure a h in
    ap (filter (are_partners on a))
    (gather-agree n (of_tasks g.drivers (longer g.gave rest)) (of_tasks g.drivers g.gave)
    (λ k lt. gather-agree g.drivers (longer g.gave rest k) (g.gave k)
    (λ d less. ap (λ (rows : List (List Value)). g.gave k d ++ rows) (none k d lt less (known.0 k d lt less)) ∙ append-nil (g.gave k d))))
    ∙ known.1

module _ (tables : List (List (List Value))) where
  pub rest_of : (sieves : List Sieve) (last : List Stage) (n w : ℕ) (node : RunPlan) (notes : Notes) (took gave : Lanes) (ended done : Flags)
      → AreOpen last n w node notes took gave ended done → (whole : WholeLosing tables sieves n w node notes took ended)
      → Rest last n w node whole.builds (longer took whole.more) gave done
  rest_of sieves last n w node notes took gave ended done opened whole =
      let all = chosen_lanes (λ k d rest. ((stages : List Stage) × AreFor node whole.builds k stages
      × StagesMake skipping (stages ++ last) (longer took whole.more k d) (gave k d ++ rest)) × MayCome (done k d) rest) n w
      (λ k d lt less.
      let o = opened k d lt less whole.builds (whole.noted k d lt less) in
      let g = o.2 (whole.more k d) (whole.none k d lt less) in
      (g.rest, ((o.0, o.1, g.chain), g.none))) in
      record { rest = all.0; chains = λ k d lt less. (all.1 k d lt less).0; none = λ k d lt less. (all.1 k d lt less).1 }

  -- an edge below a node with no joins, extended
  record Edge (sieves : List Sieve) (output : Output) (m n w : ℕ) (input : RunPlan) (g : StoppedPipe) (took : Lanes) (ended : Flags) (last : List Stage) : Type 0 where
    pub whole : WholeLosing tables sieves m g.drivers input g.notes g.took g.ended
    pub given : Rest last m g.drivers input whole.builds (longer g.took whole.more) g.gave g.done
    pub fed : Fed n w took ended (λ k. sent output n k (gather m (of_tasks g.drivers g.gave))) (λ k. sent output n k (gather m (of_tasks g.drivers given.rest)))

  edge : (sieves : List Sieve) (output : Output) (m n w : ℕ) (input : RunPlan) (g : StoppedPipe) (took : Lanes) (ended : Flags) (last : List Stage) → WholeLosing tables sieves m g.drivers input g.notes g.took g.ended
      → AreOpen last m g.drivers input g.notes g.took g.gave g.ended g.done → PassedSoFar output m n g w took ended → Edge sieves output m n w input g took ended last
  edge sieves output m n w input g took ended last whole opened passed =
      let given = rest_of sieves last m g.drivers input g.notes g.took g.gave g.ended g.done opened whole in
      record { whole = whole; given = given; fed = passed_on output m n g w took ended passed given.rest given.none }

  pub extend : (sieves : List Sieve) (n w : ℕ) (node : RunPlan) (notes : Notes) (took : Lanes) (ended : Flags) → StopsLosing tables sieves n w node notes took ended
      → WholeLosing tables sieves n w node notes took ended
  extend sieves n w (plan.scan id table columns types) notes took ended (no_notes, lost, h, held) =
      let d = deal_out n w ended h.left h.all in
      record {
        more = d.0;
        builds = [];
        below = (
          lost,
          same-trans (same-longer n w (longer took d.0) lost)
              (same-trans (same-append (same-longer n w took d.0) (same-refl (gather n (of_tasks w lost))))
              (same-trans (same-aside (gather n (of_tasks w took)) (gather n (of_tasks w d.0)) (gather n (of_tasks w lost)))
              (same-trans (same-append (same-sym (same-longer n w took lost)) d.1.same) h.some))),
          held,
        );
        noted = λ k e lt less. none_noted notes no_notes k e;
        none = d.1.none;
      }
  extend sieves n w (plan.values id types rows) notes took ended (no_notes, some) =
      let f = fed n w took ended (λ k. rows) (λ k. []) (λ k. Unit {0}) some (λ k lt done. refl) in
      record {
        more = f.more;
        builds = [];
        below = λ k lt. same-trans (same-sym (f.same k lt)) (same-from_equal (append-nil rows));
        noted = λ k e lt less. none_noted notes no_notes k e;
        none = f.none;
      }
  extend sieves n w (plan.remote id output m input) notes took ended (g, no_notes, stops, opened, passed) =
      let e = edge sieves output m n w input g took ended [] (extend sieves m g.drivers input g.notes g.took g.ended stops) opened passed in
      record {
        more = e.fed.more;
        builds = [];
        below = (
          pipe_of g e.whole.builds e.whole.more e.given.rest,
          e.whole.below,
          rest_went tables m g.drivers input e.whole.builds (longer g.took e.whole.more) g.gave g.done e.given,
          all_passed output m n g w took ended e.given.rest e.fed,
        );
        noted = λ k d lt less. none_noted notes no_notes k d;
        none = e.fed.none;
      }
  extend sieves n w (plan.step id s input) notes took ended (some, stops) =
      let whole = extend (under (types_of (tree_of_run input)) s sieves) n w input notes took ended stops in
      record { more = whole.more; builds = whole.builds; below = (some, whole.below); noted = whole.noted; none = whole.none }
  extend sieves n w (plan.halves id source output m h input) notes took ended (g, no_notes, one, stops, opened, passed) =
      let half = first_half (types_of (tree_of_run input)) h in
      let e = edge [] output m n w input g took ended (half ∷ []) (extend [] m g.drivers input g.notes g.took g.ended stops) opened passed in
      record {
        more = e.fed.more;
        builds = [];
        below = (
          pipe_of g e.whole.builds e.whole.more e.given.rest,
          one,
          e.whole.below,
          rest_into tables half m g.drivers input e.whole.builds (longer g.took e.whole.more) g.gave g.done e.given,
          all_passed output m n g w took ended e.given.rest e.fed,
        );
        noted = λ k d lt less. none_noted notes no_notes k d;
        none = e.fed.none;
      }
  extend sieves n w (plan.join id kind on left right) [] took ended none = absurd none
  extend sieves n w (plan.join id kind on left right) (note ∷ notes) took ended (own, g, stops, opened, knows, sure, below) =
      let built = extend [] n g.drivers right g.notes g.took g.ended stops in
      let given = rest_of [] [] n g.drivers right g.notes g.took g.gave g.ended g.done opened built in
      let whole = extend (over_input (left_column kind (width_of (tree_of_run left))) (own ++ sieves)) n w left notes took ended below in
      record {
        more = whole.more;
        builds = of_tasks g.drivers (longer g.gave given.rest) ∷ whole.builds;
        below = (
          own,
          pipe_of g built.builds built.more given.rest,
          built.below,
          rest_went tables n g.drivers right built.builds (longer g.took built.more) g.gave g.done given,
          λ k lt. same-refl (of_tasks g.drivers (longer g.gave given.rest) k),
          alone_then on n g own given.rest given.none sure,
          λ k lt. all_fit (types_of (tree_of_run right)) (of_tasks g.drivers (longer g.gave given.rest) k),
          whole.below,
        );
        noted = λ k d lt less. (noted_build g.drivers k g.gave given.rest g.done (note k d) (knows k d lt less) (λ e under. given.none k e lt under), whole.noted k d lt less);
        none = whole.none;
      }
  extend sieves n w (plan.union id left right) notes took ended (g, h, no_notes, stops, opened, also, opened_too, passed) =
      let first = extend [] n g.drivers left g.notes g.took g.ended stops in
      let second = extend [] n h.drivers right h.notes h.took h.ended also in
      let one = rest_of [] [] n g.drivers left g.notes g.took g.gave g.ended g.done opened first in
      let two = rest_of [] [] n h.drivers right h.notes h.took h.gave h.ended h.done opened_too second in
      let f = fed n w took ended (λ k. of_tasks g.drivers g.gave k ++ of_tasks h.drivers h.gave k) (λ k. of_tasks g.drivers one.rest k ++ of_tasks h.drivers two.rest k)
      (λ k. ((e : ℕ) → e < g.drivers → g.done k e ≡ true) × ((e : ℕ) → e < h.drivers → h.done k e ≡ true)) passed
      (λ k lt done. λ i. task_nothing g.drivers k g.done one.rest (λ d less. one.none k d lt less) done.0 i
      ++ task_nothing h.drivers k h.done two.rest (λ d less. two.none k d lt less) done.1 i) in
      record {
        more = f.more;
        builds = [];
        below = (
          pipe_of g first.builds first.more one.rest,
          pipe_of h second.builds second.more two.rest,
          first.below,
          rest_went tables n g.drivers left first.builds (longer g.took first.more) g.gave g.done one,
          second.below,
          rest_went tables n h.drivers right second.builds (longer h.took second.more) h.gave h.done two,
          λ k lt. same-trans (same-append (same-gather_append g.drivers (g.gave k) (one.rest k)) (same-gather_append h.drivers (h.gave k) (two.rest k)))
              (same-trans (same-exchange (of_tasks g.drivers g.gave k) (of_tasks g.drivers one.rest k) (of_tasks h.drivers h.gave k) (of_tasks h.drivers two.rest k)) (f.same k lt)),
        );
        noted = λ k d lt less. none_noted notes no_notes k d;
        none = f.none;
      }
