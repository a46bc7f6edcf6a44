-- A stopped run is the beginning of a whole one that leaves out what fails.
use Rattle.std.proofs.Common.{◌≡◌, ℕ, ◌<◌, List, [], ◌∷◌, ◌++◌, true, refl, ap, sym, ◌∙◌, subst}
use Rattle.std.specs.Prelude.{Option, Some, None, ◌==◌, filter}
use Rattle.std.proofs.lemmas.List.{append-nil}
use Rattle.std.proofs.lemmas.List.Elements.{filter-append}
use Rattle.sql_values.specs.declared.value.Value.{Value}
use Rattle.bag_laws.specs.Buckets.{key_bucket}
use Rattle.bag_laws.specs.Gather.{gather}
use Rattle.bag_laws.specs.Laws.{TaskRows}
use Rattle.bag_laws.specs.Weights.{SameWeights}
use Rattle.bag_laws.proofs.BagLemmas.{same-append, same-exchange, same-filter, same-from_equal, same-refl, same-sym, same-trans}
use Rattle.bag_laws.proofs.GatherLemmas.{gather-none, same-gather, same-gather_append}
use Rattle.plan_trees.specs.Allowed.{skipping}
use Rattle.plan_trees.specs.TreeTypes.{types_of}
use Rattle.plan_run_laws.specs.Nets.{AreFor, Pipe, Lanes, Went, WentInto, of_tasks}
use Rattle.plan_run_laws.specs.Stages.{Stage, StagesMake, first_half}
use Rattle.plan_run_laws.specs.RunPlans.{Output, RunPlan, single, hashed, broadcast, tree_of_run}
use Rattle.plan_run_laws.specs.RunPlans as plan
use Rattle.plan_run_laws.specs.Runs.{EdgePassed, sent}
use Rattle.plan_run_laws.specs.Stops.{AllSet, AreNoted, AreOpen, Flags, StoppedPipe, IsNoted, MayCome, Notes, PassedSoFar, Stops}
use Rattle.plan_run_laws.specs.Wholes.{RunsOn, Whole, longer}
use Rattle.plan_run_laws.proofs.DealLemmas.{Fed, deal_out, fed}
use Rattle.plan_run_laws.proofs.LaneLemmas.{chosen_lanes}
use Rattle.plan_run_laws.proofs.WireLemmas.{into_last}

-- the tasks' rows, with more behind them
pub same-longer : (n w : ℕ) (lanes more : Lanes) → SameWeights (gather n (of_tasks w (longer lanes more))) (gather n (of_tasks w lanes) ++ gather n (of_tasks w more))
same-longer n w lanes more =
    same-trans (same-gather n (of_tasks w (longer lanes more)) (λ k. of_tasks w lanes k ++ of_tasks w more k) (λ k lt. same-gather_append w (lanes k) (more k)))
    (same-gather_append n (of_tasks w lanes) (of_tasks w more))

pub same-sent : (output : Output) (n k : ℕ) {A B : List (List Value)} → SameWeights A B → SameWeights (sent output n k A) (sent output n k B)
same-sent single n k s = s
same-sent (hashed columns) n k s = same-filter (λ row. key_bucket n columns row == k) s
same-sent broadcast n k s = s

pub sent-append : (output : Output) (n k : ℕ) (A B : List (List Value)) → sent output n k (A ++ B) ≡ sent output n k A ++ sent output n k B
sent-append single n k A B = refl
sent-append (hashed columns) n k A B = filter-append (λ row. key_bucket n columns row == k) A B
sent-append broadcast n k A B = refl

pub sent-none : (output : Output) (n k : ℕ) (A : List (List Value)) → A ≡ [] → sent output n k A ≡ []
sent-none single n k A e = e
sent-none (hashed columns) n k A e = ap (filter (λ row. key_bucket n columns row == k)) e
sent-none broadcast n k A e = e

-- what the drivers then still give
pub record Rest (last : List Stage) (n w : ℕ) (node : RunPlan) (builds : List TaskRows) (took gave : Lanes) (done : Flags) : Type 0 where
  pub rest : Lanes
  pub chains : (k d : ℕ) → k < n → d < w
      → (stages : List Stage) × AreFor node builds k stages × StagesMake skipping (stages ++ last) (took k d) (gave k d ++ rest k d)
  pub none : (k d : ℕ) → k < n → d < w → MayCome (done k d) (rest k d)

-- where all that are done give no more, nothing more is there
rest_nothing : (n w : ℕ) (done : Flags) (rest : Lanes) → ((k d : ℕ) → k < n → d < w → MayCome (done k d) (rest k d)) → AllSet n w done → gather n (of_tasks w rest) ≡ []
rest_nothing n w done rest none all =
    gather-none n (of_tasks w rest) (λ k lt. gather-none w (rest k) (λ d less. none k d lt less (all k d lt less)))

pub task_nothing : (w k : ℕ) (done : Flags) (rest : Lanes) → ((d : ℕ) → d < w → MayCome (done k d) (rest k d)) → ((d : ℕ) → d < w → done k d ≡ true) → of_tasks w rest k ≡ []
task_nothing w k done rest none all = gather-none w (rest k) (λ d less. none d less (all d less))

-- over an edge: what the givers still give reaches drivers that have not ended
pub passed_on : (output : Output) (m n : ℕ) (g : StoppedPipe) (w : ℕ) (took : Lanes) (ended : Flags) → PassedSoFar output m n g w took ended
    → (rest : Lanes) → ((k d : ℕ) → k < m → d < g.drivers → MayCome (g.done k d) (rest k d))
    → Fed n w took ended (λ k. sent output n k (gather m (of_tasks g.drivers g.gave))) (λ k. sent output n k (gather m (of_tasks g.drivers rest)))
passed_on output m n g w took ended passed rest none =
    fed n w took ended (λ k. sent output n k (gather m (of_tasks g.drivers g.gave))) (λ k. sent output n k (gather m (of_tasks g.drivers rest)))
    (λ k. AllSet m g.drivers g.done) passed
    (λ k lt all. sent-none output n k (gather m (of_tasks g.drivers rest)) (rest_nothing m g.drivers g.done rest none all))

pub all_passed : (output : Output) (m n : ℕ) (g : StoppedPipe) (w : ℕ) (took : Lanes) (ended : Flags) (rest : Lanes)
    (f : Fed n w took ended (λ k. sent output n k (gather m (of_tasks g.drivers g.gave))) (λ k. sent output n k (gather m (of_tasks g.drivers rest))))
    → EdgePassed output m n (of_tasks g.drivers (longer g.gave rest)) (of_tasks w (longer took f.more))
all_passed output m n g w took ended rest f k lt =
    same-trans (same-sent output n k (same-longer m g.drivers g.gave rest))
    (same-trans (same-from_equal (sent-append output n k (gather m (of_tasks g.drivers g.gave)) (gather m (of_tasks g.drivers rest)))) (f.same k lt))

-- a build that a note knows is whole
pub noted_build : (w k : ℕ) (gave rest : Lanes) (done : Flags) (known : Option (List (List Value)))
    → ((built : List (List Value)) → known ≡ Some built → ((e : ℕ) → e < w → done k e ≡ true) × SameWeights (of_tasks w gave k) built)
    → ((e : ℕ) → e < w → MayCome (done k e) (rest k e)) → IsNoted known (of_tasks w (longer gave rest) k)
noted_build w k gave rest done None knows none = tt
noted_build w k gave rest done (Some built) knows none =
    let h = knows built refl in
    same-trans (same-gather_append w (gave k) (rest k))
    (same-trans (same-from_equal (ap (λ rows. of_tasks w gave k ++ rows) (task_nothing w k done rest none h.0) ∙ append-nil (of_tasks w gave k))) h.1)

-- where there are no notes, no build is known
pub none_noted : (notes : Notes) → notes ≡ [] → (k d : ℕ) → AreNoted notes [] k d
none_noted notes e k d = subst (λ ns. AreNoted ns [] k d) (sym e) tt

-- a pipeline that others take from, gone on to its end

abbrev pub pipe_of : StoppedPipe → List TaskRows → Lanes → Lanes → Pipe
pipe_of g builds more rest = record { drivers = g.drivers; builds = builds; took = longer g.took more; gave = longer g.gave rest }

module _ (tables : List (List (List Value))) where
  pub rest_of : (last : List Stage) (n w : ℕ) (node : RunPlan) (notes : Notes) (took gave : Lanes) (ended done : Flags)
      → AreOpen last n w node notes took gave ended done → (whole : Whole tables n w node notes took ended)
      → Rest last n w node whole.builds (longer took whole.more) gave done
  rest_of last n w node notes took gave ended done opened whole =
      let all = chosen_lanes (λ k d rest. ((stages : List Stage) × AreFor node whole.builds k stages
      × StagesMake skipping (stages ++ last) (longer took whole.more k d) (gave k d ++ rest)) × MayCome (done k d) rest) n w
      (λ k d lt less.
      let o = opened k d lt less whole.builds (whole.noted k d lt less) in
      let g = o.2 (whole.more k d) (whole.none k d lt less) in
      (g.rest, ((o.0, o.1, g.chain), g.none))) in
      record { rest = all.0; chains = λ k d lt less. (all.1 k d lt less).0; none = λ k d lt less. (all.1 k d lt less).1 }

  pub rest_went : (n w : ℕ) (node : RunPlan) (builds : List TaskRows) (took gave : Lanes) (done : Flags) (r : Rest [] n w node builds took gave done)
      → Went skipping n w node builds took (longer gave r.rest)
  rest_went n w node builds took gave done r k d lt less =
      let c = r.chains k d lt less in
      (c.0, c.1, subst (λ stages. StagesMake skipping stages (took k d) (gave k d ++ r.rest k d)) (append-nil c.0) c.2)

  pub rest_into : (stage : Stage) (n w : ℕ) (node : RunPlan) (builds : List TaskRows) (took gave : Lanes) (done : Flags) (r : Rest (stage ∷ []) n w node builds took gave done)
      → WentInto stage skipping n w node builds took (longer gave r.rest)
  rest_into stage n w node builds took gave done r =
      into_last skipping tables n w node builds stage took (longer gave r.rest)
      (λ k d lt less. let c = r.chains k d lt less in (c.0 ++ stage ∷ [], (c.0, refl, c.1), c.2))

  -- an edge below a node with no joins, extended
  record Edge (output : Output) (m n w : ℕ) (input : RunPlan) (g : StoppedPipe) (took : Lanes) (ended : Flags) (last : List Stage) : Type 0 where
    pub whole : Whole tables m g.drivers input g.notes g.took g.ended
    pub given : Rest last m g.drivers input whole.builds (longer g.took whole.more) g.gave g.done
    pub fed : Fed n w took ended (λ k. sent output n k (gather m (of_tasks g.drivers g.gave))) (λ k. sent output n k (gather m (of_tasks g.drivers given.rest)))

  edge : (output : Output) (m n w : ℕ) (input : RunPlan) (g : StoppedPipe) (took : Lanes) (ended : Flags) (last : List Stage) → Whole tables m g.drivers input g.notes g.took g.ended
      → AreOpen last m g.drivers input g.notes g.took g.gave g.ended g.done → PassedSoFar output m n g w took ended → Edge output m n w input g took ended last
  edge output m n w input g took ended last whole opened passed =
      let given = rest_of last m g.drivers input g.notes g.took g.gave g.ended g.done opened whole in
      record { whole = whole; given = given; fed = passed_on output m n g w took ended passed given.rest given.none }

  pub extend : (n w : ℕ) (node : RunPlan) (notes : Notes) (took : Lanes) (ended : Flags) → Stops tables n w node notes took ended → Whole tables n w node notes took ended
  extend n w (plan.scan id table columns types) notes took ended (no_notes, h) =
      let d = deal_out n w ended h.left h.all in
      record {
        more = d.0;
        builds = [];
        below = same-trans (same-longer n w took d.0) (same-trans (same-append (same-refl (gather n (of_tasks w took))) d.1.same) h.some);
        noted = λ k e lt less. none_noted notes no_notes k e;
        none = d.1.none;
      }
  extend n w (plan.values id types rows) notes took ended (no_notes, some) =
      let f = fed n w took ended (λ k. rows) (λ k. []) (λ k. Unit {0}) some (λ k lt done. refl) in
      record {
        more = f.more;
        builds = [];
        below = λ k lt. same-trans (same-sym (f.same k lt)) (same-from_equal (append-nil rows));
        noted = λ k e lt less. none_noted notes no_notes k e;
        none = f.none;
      }
  extend n w (plan.remote id output m input) notes took ended (g, no_notes, stops, opened, passed) =
      let e = edge output m n w input g took ended [] (extend m g.drivers input g.notes g.took g.ended stops) opened passed in
      record {
        more = e.fed.more;
        builds = [];
        below = (
          pipe_of g e.whole.builds e.whole.more e.given.rest,
          e.whole.below,
          rest_went m g.drivers input e.whole.builds (longer g.took e.whole.more) g.gave g.done e.given,
          all_passed output m n g w took ended e.given.rest e.fed,
        );
        noted = λ k d lt less. none_noted notes no_notes k d;
        none = e.fed.none;
      }
  extend n w (plan.step id s input) notes took ended (some, stops) =
      let whole = extend n w input notes took ended stops in
      record { more = whole.more; builds = whole.builds; below = (some, whole.below); noted = whole.noted; none = whole.none }
  extend n w (plan.halves id source output m h input) notes took ended (g, no_notes, one, stops, opened, passed) =
      let half = first_half (types_of (tree_of_run input)) h in
      let e = edge output m n w input g took ended (half ∷ []) (extend m g.drivers input g.notes g.took g.ended stops) opened passed in
      record {
        more = e.fed.more;
        builds = [];
        below = (
          pipe_of g e.whole.builds e.whole.more e.given.rest,
          one,
          e.whole.below,
          rest_into half m g.drivers input e.whole.builds (longer g.took e.whole.more) g.gave g.done e.given,
          all_passed output m n g w took ended e.given.rest e.fed,
        );
        noted = λ k d lt less. none_noted notes no_notes k d;
        none = e.fed.none;
      }
  extend n w (plan.join id kind on left right) [] took ended none = absurd none
  extend n w (plan.join id kind on left right) (note ∷ notes) took ended (g, stops, opened, knows, below) =
      let built = extend n g.drivers right g.notes g.took g.ended stops in
      let given = rest_of [] n g.drivers right g.notes g.took g.gave g.ended g.done opened built in
      let whole = extend n w left notes took ended below in
      record {
        more = whole.more;
        builds = of_tasks g.drivers (longer g.gave given.rest) ∷ whole.builds;
        below = (
          pipe_of g built.builds built.more given.rest,
          built.below,
          rest_went n g.drivers right built.builds (longer g.took built.more) g.gave g.done given,
          λ k lt. same-refl (of_tasks g.drivers (longer g.gave given.rest) k),
          whole.below,
        );
        noted = λ k d lt less. (noted_build g.drivers k g.gave given.rest g.done (note k d) (knows k d lt less) (λ e under. given.none k e lt under), whole.noted k d lt less);
        none = whole.none;
      }
  extend n w (plan.union id left right) notes took ended (g, h, no_notes, stops, opened, also, opened_too, passed) =
      let first = extend n g.drivers left g.notes g.took g.ended stops in
      let second = extend n h.drivers right h.notes h.took h.ended also in
      let one = rest_of [] n g.drivers left g.notes g.took g.gave g.ended g.done opened first in
      let two = rest_of [] n h.drivers right h.notes h.took h.gave h.ended h.done opened_too second in
      let f = fed n w took ended (λ k. of_tasks g.drivers g.gave k ++ of_tasks h.drivers h.gave k) (λ k. of_tasks g.drivers one.rest k ++ of_tasks h.drivers two.rest k)
      (λ k. ((e : ℕ) → e < g.drivers → g.done k e ≡ true) × ((e : ℕ) → e < h.drivers → h.done k e ≡ true)) passed
      (λ k lt done. λ i. task_nothing g.drivers k g.done one.rest (λ d less. one.none k d lt less) done.0 i
      ++ task_nothing h.drivers k h.done two.rest (λ d less. two.none k d lt less) done.1 i) in
      record {
        more = f.more;
        builds = [];
        below = (
          pipe_of g first.builds first.more one.rest,
          pipe_of h second.builds second.more two.rest,
          first.below,
          rest_went n g.drivers left first.builds (longer g.took first.more) g.gave g.done one,
          second.below,
          rest_went n h.drivers right second.builds (longer h.took second.more) h.gave h.done two,
          λ k lt. same-trans (same-append (same-gather_append g.drivers (g.gave k) (one.rest k)) (same-gather_append h.drivers (h.gave k) (two.rest k)))
              (same-trans (same-exchange (of_tasks g.drivers g.gave k) (of_tasks g.drivers one.rest k) (of_tasks h.drivers h.gave k) (of_tasks h.drivers two.rest k)) (f.same k lt)),
        );
        noted = λ k d lt less. none_noted notes no_notes k d;
        none = f.none;
      }

  -- and so with the drivers of the node's own pipeline
  pub runs_on : (n w : ℕ) (node : RunPlan) (notes : Notes) (took gave : Lanes) (ended done : Flags) → Stops tables n w node notes took ended
      → AreOpen [] n w node notes took gave ended done → RunsOn tables n w node notes took gave ended done
  runs_on n w node notes took gave ended done stops opened =
      let all = extend n w node notes took ended stops in
      let r = rest_of [] n w node notes took gave ended done opened all in
      record { whole = all; rest = r.rest; went = rest_went n w node all.builds (longer took all.more) gave done r; none = r.none }
