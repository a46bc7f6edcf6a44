-- Each dynamic filter of a consistent plan is one of a join of the run, and its column comes from the scan that it names.
use Rattle.std.proofs.Common.{◌≡◌, ℕ, ◌+◌, ◌<◌, ◌≤◌, List, [], ◌∷◌, length, get_or, map, Option, Some, None, option_map, ap, sym, ◌∙◌, subst, arith}
use Rattle.std.specs.Prelude.{All, Ok, slice_get}
use Rattle.std.proofs.lemmas.List.{length-map}
use Rattle.std.proofs.lemmas.List.Elements.{All-cons, All-get_or, All-nil, All-weaker}
use Rattle.std.proofs.lemmas.Option.{get_or_from_slice_get, slice_get-map, slice_get_within}
use Rattle.sql_values.specs.declared.relational.JoinKind.{JoinKind}
use Rattle.sql_exprs.proofs.TypingLemmas.{typed_then_ok}
use Rattle.sql_exprs.specs.Typing.{typed_then}
use Rattle.plan_trees.specs.declared.tree.Pair.{Pair}
use Rattle.plan_trees.specs.Allowed.{width_of}
use Rattle.plan_trees.specs.TreeForms.{TreeForm, pair_view}
use Rattle.column_origins.specs.declared.origin.Origin.{Origin}
use Rattle.column_origins.specs.Origins.{origin_of}
use Rattle.plan_docs.specs.declared.node.DynamicFilter.{DynamicFilter}
use Rattle.plan_docs.specs.Nodes.{NodeForm, scan, values, remote, step, join, union}
use Rattle.plan_docs.specs.Plans.{FragmentForm, PlanForm}
use Rattle.plan_types.specs.declared.row_types.RowTypes.{RowTypes}
use Rattle.plan_types.specs.Faults.{or_fault}
use Rattle.plan_types.specs.Nodes.{node_types}
use Rattle.plan_types.specs.Plans.{all_types, fragment_types, output_fault, plan_types, result_fault, root_path}
use Rattle.plan_link_laws.specs.Filters.{trees_of}
use Rattle.plan_link_laws.specs.Reaches.{NodeReaches, ReachesScan}
use Rattle.plan_link_laws.specs.Trees.{node_tree}
use Rattle.plan_link_laws.proofs.ReachLemmas.{second_option}
use Rattle.plan_run_laws.specs.RunPlans.{RunPlan}
use Rattle.plan_spreads.specs.declared.spread.RowSpread.{RowSpread}
use Rattle.plan_spreads.specs.Halves.{AllMeet, HalvesMeet}
use Rattle.plan_spreads.specs.Plans.{all_spreads, placement_fault, plan_spreads, sources_fault}
use Rattle.plan_spreads.specs.Reading.{AllReadOn, IsAmong}
use Rattle.plan_spreads.specs.Runs.{fragment_parts, plan_run}
use Rattle.plan_spreads.specs.Sources.{misread}
use Rattle.plan_spreads.proofs.PlanLemmas.{all_meet, all_stand, first_spread}
use Rattle.plan_spreads.proofs.WidthLemmas.{unless_fault}
use Rattle.plan_link_laws.specs.Consistent.{IsConsistent}
use Rattle.plan_link_laws.proofs.DocumentLemmas.{filters_reach, judged_plan, plan_meets, plan_read_once, plan_reads}
use Rattle.sieve_laws.specs.ComingDown.{HasJoin}
use Rattle.net_laws.specs.RunJoins.{EachJoin, ReachesIn, FiltersReachIn, HasJoinOver, HasJoins}
use Rattle.net_laws.proofs.JoinLemmas.{joins_run}
use Rattle.net_laws.proofs.PairLemmas.{LeftsWithin, root_within}
use Rattle.net_laws.proofs.TreeLemmas.{From, fragment_means, from_next}

module _ (fs : List FragmentForm) where
  abbrev Within : FragmentForm → Type 0
  Within f = EachJoin (λ id kind on filters left. LeftsWithin (width_of (node_tree (trees_of fs) left)) on) f.root

  -- the fragments from place i on are `rest`; how many tasks there are does not matter
  all_within : (i : ℕ) (rest : List FragmentForm) (ts : List RowTypes) (ss : List RowSpread) → From 1 fs i rest → AllReadOn i rest → length rest ≤ length fs
      → AllMeet i rest → sources_fault i rest ≡ None → all_spreads i rest ≡ Ok ss → all_types i rest ≡ Ok ts → All Within rest
  all_within i [] ts ss at on enough m a e h = All-nil Within
  all_within i (f ∷ rest) ts ss at on enough m a e h =
      let here = misread f.placement (i + 1) rest (root_path i) f.root in
      let behind = second_option here (sources_fault (i + 1) rest) a in
      let spreads = first_spread i f rest ss e in
      let next = from_next 1 fs i f rest at in
      let fewer : length rest ≤ length fs = omega (arith, enough) in
      let parts = fragment_parts 1 (i + 1) rest in
      typed_then_ok (all_types (i + 1) rest) (λ later. typed_then (fragment_types later i f) (λ types. Ok (types ∷ later))) ts _ h
      (λ later h1 k1. typed_then_ok (fragment_types later i f) (λ types. Ok (types ∷ later)) ts _ k1
      (λ t h2 k2. typed_then_ok (node_types (i + 1) later (root_path i) f.root) (λ types. or_fault (output_fault i types.columns f.output) (Ok types)) t _ h2
      (λ types typed g.
      let stand = all_stand 1 (omega arith) (i + 1) rest later spreads.rest m.1 behind spreads.below h1 in
      All-cons Within f rest
      (root_within (i + 1) rest later parts stand (trees_of fs) (IsAmong (i + 1) (length rest))
      (λ n among. fragment_means 1 fs (i + 1) rest next on.1 (length fs) fewer n among) (root_path i) f.root types m.0 on.0 typed)
      (all_within (i + 1) rest later spreads.rest next on.1 fewer m.1 behind spreads.below h1))))

plan_within : (plan : PlanForm) (types : List RowTypes) (spreads : List RowSpread) → plan_types plan ≡ Ok types → plan_spreads plan ≡ Ok spreads → HalvesMeet plan.fragments
    → AllReadOn 0 plan.fragments → All (Within plan.fragments) plan.fragments
unfolding plan_types plan_spreads
plan_within plan types spreads h e m on =
    let fs = plan.fragments in
    let one = unless_fault (placement_fault (slice_get fs 0)) (or_fault (sources_fault 0 fs) (all_spreads 0 fs)) spreads e in
    let sent = unless_fault (sources_fault 0 fs) (all_spreads 0 fs) spreads one.1 in
    typed_then_ok (all_types 0 fs) (λ ts. or_fault (result_fault (length plan.output) ts) (Ok ts)) types _ h
    (λ ts typed g.
    all_within fs 0 fs ts spreads (λ k. let none : 0 + k ≡ k = omega arith in ap (slice_get fs) none) on (omega arith) (all_meet fs m) sent.0 sent.1 typed)

module _ (run : RunPlan) (id : ℕ) (kind : JoinKind) (on : List Pair) (left : TreeForm) (h : HasJoinOver run id kind left) (within : LeftsWithin (width_of left) on) where
  filter_reaches : (f : DynamicFilter) → ReachesScan kind on left f → ReachesIn run id (map pair_view on) f
  filter_reaches f r =
      let key_low = slice_get_within on f.key r.pair r.is_pair in
      let pair_is : get_or (map pair_view on) f.key (0, 0) ≡ pair_view r.pair =
      get_or_from_slice_get (map pair_view on) f.key (pair_view r.pair) (0, 0) (slice_get-map pair_view on f.key ∙ ap (option_map pair_view) r.is_pair) in
      let column_is : (get_or (map pair_view on) f.key (0, 0)).0 ≡ r.pair.left = ap (λ (p : ℕ × ℕ). p.0) pair_is in
      let given = get_or_from_slice_get on f.key r.pair r.pair r.is_pair in
      let low : r.pair.left < width_of left = subst (λ (p : Pair). p.left < width_of left) given (All-get_or (λ (p : Pair). p.left < width_of left) on f.key r.pair key_low within) in
      let width = ap width_of h.means in
      let count = length-map on pair_view in
      let origin : Option Origin = Some (record { scan = f.scan; column = f.column }) in
      record {
        pair = omega (arith, key_low, count);
        side = h.side;
        has = subst (λ (k : JoinKind). HasJoin run id k h.side) r.inner h.has;
        within = omega (arith, column_is, low, width);
        comes = subst (λ (t : TreeForm). origin_of t (get_or (map pair_view on) f.key (0, 0)).0 ≡ origin) (sym h.means)
            (subst (λ (c : ℕ). origin_of left c ≡ origin) (sym column_is) r.comes);
      }

module _ (run : RunPlan) (reads : ℕ → TreeForm) where
  abbrev Ours : NodeForm → Type 0
  Ours node = EachJoin (λ id kind on filters left. HasJoinOver run id kind (node_tree reads left)) node

  abbrev Low : NodeForm → Type 0
  Low node = EachJoin (λ id kind on filters left. LeftsWithin (width_of (node_tree reads left)) on) node

  abbrev Comes : NodeForm → Type 0
  Comes node = EachJoin (λ id kind on filters left. All (ReachesIn run id (map pair_view on)) filters) node

  filters_reach_in : (node : NodeForm) → Ours node → Low node → NodeReaches reads node → Comes node
  filters_reach_in (scan id table columns types) ours low r = tt
  filters_reach_in (values id types rows) ours low r = tt
  filters_reach_in (remote id fragment) ours low r = tt
  filters_reach_in (step id operator input) ours low r = filters_reach_in input ours low r
  filters_reach_in (join id kind on filters left right) ours low r = (
    All-weaker (ReachesScan kind on (node_tree reads left)) (ReachesIn run id (map pair_view on))
        (filter_reaches run id kind on (node_tree reads left) ours.0 low.0) filters r.2,
    filters_reach_in left ours.1 low.1 r.0,
    filters_reach_in right ours.2 low.2 r.1,
  )
  filters_reach_in (union id left right) ours low r = (filters_reach_in left ours.0 low.0 r.0, filters_reach_in right ours.1 low.1 r.1)

  fragments_reach : (fs : List FragmentForm) → All (λ (f : FragmentForm). Ours f.root) fs → All (λ (f : FragmentForm). Low f.root) fs
      → All (λ (f : FragmentForm). NodeReaches reads f.root) fs → All (λ (f : FragmentForm). Comes f.root) fs
  fragments_reach fs ours low r = λ k f within. filters_reach_in (get_or fs k f).root (ours k f within) (low k f within) (r k f within)

pub plan_has_joins : (plan : PlanForm) → IsConsistent plan → (tasks : ℕ) → HasJoins (plan_run tasks plan) plan
plan_has_joins plan c tasks = joins_run tasks plan (plan_reads plan c) (plan_read_once plan c)

pub plan_filters : (plan : PlanForm) → IsConsistent plan → (tasks : ℕ) → FiltersReachIn (plan_run tasks plan) plan
plan_filters plan c tasks =
    let j = judged_plan plan c in
    fragments_reach (plan_run tasks plan) (trees_of plan.fragments) plan.fragments (plan_has_joins plan c tasks)
    (plan_within plan j.types.has j.spreads.has j.types.is j.spreads.is (plan_meets plan c) (plan_reads plan c))
    (filters_reach plan c)
