-- The counts of dynamic filters, of what is known of the drivers that counted.
use Rattle.std.proofs.Common.{◌≡◌, ℕ, ◌<◌, zero, suc, ◌+◌, List, [], ◌∷◌, ◌++◌, All, Bool, true, false, Some, refl, ap, sym, ◌∙◌, subst, arith}
use Rattle.std.specs.Prelude.{Contains, flat_map, if◌then◌else◌, slice_get}
use Rattle.std.proofs.lemmas.List.Elements.{All-nil, All-cons, Contains-append_left, Contains-append_right, Contains-push}
use Rattle.std.proofs.lemmas.List.Sorted.{All-permutation, Contains-permutation}
use Rattle.operator_core.specs.Rows.{Row}
use Rattle.plan_docs.specs.declared.node.DynamicFilter.{DynamicFilter}
use Rattle.plan_docs.specs.Plans.{FragmentForm, PlanForm}
use Rattle.plan_reader.specs.Trees.{tree_of}
use Rattle.plan_trees.specs.declared.tree.Pair.{Pair}
use Rattle.plan_run_laws.specs.Spreads.{Tables}
use Rattle.plan_fit_laws.specs.Consistent.{IsConsistent}
use Rattle.driver_loop.specs.Drivers.{DriverState}
use Rattle.plan_layout.specs.declared.filters.PlacedFilter.{PlacedFilter}
use Rattle.plan_layout.specs.declared.pipe.Parallelism.{Parallelism}
use Rattle.plan_layout.specs.Filters.{scan_filters}
use Rattle.plan_layout.specs.Layouts.{layout_of}
use Rattle.plan_layout.specs.Pipes.{PipeForm}
use Rattle.tree_evaluator.specs.Fits.{FitsTables}
use Rattle.net_laws.specs.Nets.{AreDriversOf, NetForm}
use Rattle.net_laws.specs.Settled.{AreSettled}
use Rattle.net_laws.proofs.LaterLemmas.{drivers_on}
use Rattle.net_laws.specs.PlanCounts.{AreCountable}
use Rattle.net_laws.specs.PlanFilters.{HasPlace, IsCountOfFilter, IsFilterOfPlan}
use Rattle.net_closing.specs.Counts.{AreCounts, counts_from, counts_of, rows_passed}
use Rattle.net_closing.specs.declared.counts.FilterPassed.{FilterPassed}
use Rattle.net_closing.proofs.PipeLemmas.{all_flat}
use Rattle.task_executor.specs.Nets.{IsNetOf, NetState, layout_in}
use Rattle.task_executor.specs.Passed.{AreCountsIn, HavePassed, IsCountIn}

contains_flat : {X Y : Type 0} (of : Y → List X) (ys : List Y) (k : ℕ) (y : Y) (x : X) → slice_get ys k ≡ Some y → Contains (of y) x → Contains (flat_map of ys) x
contains_flat of [] k y x is has = absurd cc
contains_flat {Y = Y} of (z ∷ ys) zero y x is has =
    let same : y ≡ z = cc in
    Contains-append_left (of z) (flat_map of ys) x (subst (λ (v : Y). Contains (of v) x) same has)
contains_flat of (z ∷ ys) (suc k) y x is has = Contains-append_right (of z) (flat_map of ys) x (contains_flat of ys k y x is has)

first_of : {X : Type 0} (x : X) (xs : List X) → Contains (x ∷ xs) x
first_of x xs = Contains-append_left (x ∷ []) xs x (Contains-push [] x)

rest_of : {X : Type 0} (x y : X) (xs : List X) → Contains xs y → Contains (x ∷ xs) y
rest_of x y xs has = Contains-append_right (x ∷ []) xs y has

module _ (plan : PlanForm) (tables : Tables) (layout : List PipeForm) (drivers : List DriverState)
    (counted : (at : ℕ) (pipe : PipeForm) → slice_get layout at ≡ Some pipe → (place : ℕ) (placed : PlacedFilter) → slice_get (scan_filters layout pipe) place ≡ Some placed
    → IsCountOfFilter plan (tree_of plan) tables placed.filter (rows_passed drivers pipe place)) where
  abbrev one : PipeForm → ℕ → PlacedFilter → FilterPassed
  one pipe place f = record { filter = f.filter.id; rows = rows_passed drivers pipe place }

  abbrev Counts : List FilterPassed → Type 0
  Counts counts = All (IsCountIn plan tables) counts

  -- one more filter, with those behind it
  with_one : (pipe : PipeForm) (place : ℕ) (f : PlacedFilter) (rest : List FilterPassed) → IsCountOfFilter plan (tree_of plan) tables f.filter (rows_passed drivers pipe place) → Counts rest
      → (b : Bool) → f.filter.wait ≡ b → Counts (if b then one pipe place f ∷ rest else rest)
  with_one pipe place f rest is behind true waits = All-cons (IsCountIn plan tables) (one pipe place f) rest (record { own = f.filter; waits = waits; id = refl; is = is }) behind
  with_one pipe place f rest is behind false waits = behind

  -- the counts of the filters of a pipe's scan from a place on
  counts_in : (at : ℕ) (pipe : PipeForm) → slice_get layout at ≡ Some pipe → (place : ℕ) (fs : List PlacedFilter)
      → ((i : ℕ) (f : PlacedFilter) → slice_get fs i ≡ Some f → slice_get (scan_filters layout pipe) (place + i) ≡ Some f)
      → Counts (counts_from drivers pipe place fs)
  counts_in at pipe there place [] are = All-nil (IsCountIn plan tables)
  counts_in at pipe there place (f ∷ fs) are =
      with_one pipe place f (counts_from drivers pipe (place + 1) fs)
      (counted at pipe there place f (subst (λ (k : ℕ). slice_get (scan_filters layout pipe) k ≡ Some f) (omega arith) (are 0 f refl)))
      (counts_in at pipe there (place + 1) fs (λ i g is. subst (λ (k : ℕ). slice_get (scan_filters layout pipe) k ≡ Some g) (omega arith) (are (suc i) g is)))
      f.filter.wait refl

  pipe_counts : (at : ℕ) (pipe : PipeForm) → slice_get layout at ≡ Some pipe → Counts (counts_from drivers pipe 0 (scan_filters layout pipe))
  pipe_counts at pipe there = counts_in at pipe there 0 (scan_filters layout pipe) (λ i f is. subst (λ (k : ℕ). slice_get (scan_filters layout pipe) k ≡ Some f) (omega arith) is)

  -- a filter that is waited for has a count
  behind_one : (first : FilterPassed) (rest : List FilterPassed) (count : FilterPassed) (b : Bool) → Contains rest count → Contains (if b then first ∷ rest else rest) count
  behind_one first rest count true has = rest_of first count rest has
  behind_one first rest count false has = has

  counted_from : (pipe : PipeForm) (place : ℕ) (fs : List PlacedFilter) (i : ℕ) (f : PlacedFilter) → slice_get fs i ≡ Some f → f.filter.wait ≡ true
      → Contains (counts_from drivers pipe place fs) (one pipe (place + i) f)
  counted_from pipe place [] i f is waits = absurd cc
  counted_from pipe place (g ∷ fs) zero f is waits =
      let same : g ≡ f = cc in
      let w : g.filter.wait ≡ true = ap (λ (h : PlacedFilter). h.filter.wait) same ∙ waits in
      let here : one pipe place g ≡ one pipe (place + 0) f = ap (one pipe place) same ∙ ap (λ (k : ℕ). one pipe k f) (omega arith) in
      subst (λ (b : Bool). Contains (if b then one pipe place g ∷ counts_from drivers pipe (place + 1) fs else counts_from drivers pipe (place + 1) fs) (one pipe (place + 0) f)) (sym w)
      (subst (λ (c : FilterPassed). Contains (one pipe place g ∷ counts_from drivers pipe (place + 1) fs) c) here (first_of (one pipe place g) (counts_from drivers pipe (place + 1) fs)))
  counted_from pipe place (g ∷ fs) (suc i) f is waits =
      behind_one (one pipe place g) (counts_from drivers pipe (place + 1) fs) (one pipe (place + suc i) f) g.filter.wait
      (subst (λ (k : ℕ). Contains (counts_from drivers pipe (place + 1) fs) (one pipe k f)) (omega arith) (counted_from pipe (place + 1) fs i f is waits))

  -- of the filters of a layout's scans
  placed_count : (counts : List FilterPassed) → AreCounts layout drivers counts → (f : DynamicFilter) → HasPlace layout f → f.wait ≡ true
      → (count : FilterPassed) × Contains counts count × (count.filter ≡ f.id)
  placed_count counts are f p waits =
      let count = one p.pipe (0 + p.place) p.own in (
        count,
        Contains-permutation (counts_of layout drivers) counts count are.same
            (contains_flat (λ (pipe : PipeForm). counts_from drivers pipe 0 (scan_filters layout pipe)) layout p.at p.pipe count p.there
            (counted_from p.pipe 0 (scan_filters layout p.pipe) p.place p.own p.is (ap (λ (g : DynamicFilter). g.wait) p.same ∙ waits))),
        ap (λ (g : DynamicFilter). g.id) p.same,
      )

  pub are_counts_in : (counts : List FilterPassed) → AreCounts layout drivers counts
      → ((join : ℕ) (on : List Pair) (f : DynamicFilter) → IsFilterOfPlan plan join on f → HasPlace layout f) → AreCountsIn plan tables counts
  are_counts_in counts are places = record {
    each = All-permutation (IsCountIn plan tables) (counts_of layout drivers) counts are.same
        (all_flat (IsCountIn plan tables) (λ (pipe : PipeForm). counts_from drivers pipe 0 (scan_filters layout pipe)) layout pipe_counts);
    ascending = are.ascending;
    all = λ join on own of waits. placed_count counts are own (places join on own of) waits;
  }

-- what the laws of nets say of counts, and of the places of filters
abbrev CountsSo : PlanForm → Type 0
CountsSo plan =
    IsConsistent plan → (p : Parallelism) → 0 < p.tasks → (f : FragmentForm) → slice_get plan.fragments 0 ≡ Some f → (net : NetForm) (drivers : List DriverState)
    → net.layout ≡ layout_of p plan → AreDriversOf net drivers → AreSettled net drivers → FitsTables (tree_of plan) net.tables → All (λ (d : DriverState). d.is_finished ≡ true) drivers
    → AreCountable net.tables → (at : ℕ) (pipe : PipeForm) → slice_get net.layout at ≡ Some pipe → (place : ℕ) (placed : PlacedFilter)
    → slice_get (scan_filters net.layout pipe) place ≡ Some placed → IsCountOfFilter plan (tree_of plan) net.tables placed.filter (rows_passed drivers pipe place)

abbrev PlacesSo : PlanForm → Type 0
PlacesSo plan =
    IsConsistent plan → (p : Parallelism) → (f : FragmentForm) → slice_get plan.fragments 0 ≡ Some f
    → (join : ℕ) (on : List Pair) (filter : DynamicFilter) → IsFilterOfPlan plan join on filter → HasPlace (layout_of p plan) filter

pub counts_hold : (tables : Tables) (plan : PlanForm) (net : NetState) → CountsSo plan → PlacesSo plan → IsNetOf plan tables net → AreCountable tables
    → (counts : List FilterPassed) → HavePassed net counts → AreCountsIn plan tables counts
counts_hold tables plan net counts_so places_so is few counts passed =
    let made = is.over.1 in
    let are = drivers_on made.net net.drivers passed.after made.are passed.later passed.whole in
    let settled = passed.settled made.net made.of are in
    are_counts_in plan tables (layout_in net) passed.after
    (λ at pipe there place placed at_place.
    subst (λ (ts : Tables). IsCountOfFilter plan (tree_of plan) ts placed.filter (rows_passed passed.after pipe place)) made.over
    (counts_so is.consistent is.parallelism is.some is.first is.is_first made.net passed.after (made.of ∙ is.laid) are settled
    (subst (λ (ts : Tables). FitsTables (tree_of plan) ts) (sym made.over) is.fits) passed.finished
    (subst (λ (ts : Tables). AreCountable ts) (sym made.over) few) at pipe
    (subst (λ (l : List PipeForm). slice_get l at ≡ Some pipe) (sym made.of) there) place placed
    (subst (λ (l : List PipeForm). slice_get (scan_filters l pipe) place ≡ Some placed) (sym made.of) at_place)))
    counts passed.are
    (λ join on f of. subst (λ (l : List PipeForm). HasPlace l f) (sym is.laid) (places_so is.consistent is.parallelism is.first is.is_first join on f of))
