-- The dynamic filters that the layout of a consistent plan gives a scan have ids that rise: no more filters of an id are in the
-- layout than the plan has of it.
use Rattle.std.proofs.Common.{◌≡◌, ℕ, ◌+◌, ◌<◌, ◌≤◌, suc, zero, List, [], ◌∷◌, ◌++◌, get_or, length, map, Bool, true, false, Option, None, Some, refl, ap, ◌∙◌, subst, arith}
use Rattle.std.specs.Prelude.{slice_get, nat_lt, ◌==◌, if◌then◌else◌}
use Rattle.std.specs.List.Sorted.{IsStrictlyIncreasing}
use Rattle.std.proofs.lemmas.Bool.{eq-eqb}
use Rattle.plan_docs.specs.declared.node.DynamicFilter.{DynamicFilter}
use Rattle.plan_docs.specs.declared.plan.Output.{Output}
use Rattle.plan_docs.specs.Nodes.{NodeForm}
use Rattle.plan_docs.specs.Nodes as node
use Rattle.plan_docs.specs.Plans.{FragmentForm, PlanForm}
use Rattle.plan_layout.specs.declared.filters.PlacedFilter.{PlacedFilter}
use Rattle.plan_layout.specs.declared.pipe.Parallelism.{Parallelism}
use Rattle.plan_layout.specs.declared.pipe.Series.{Series}
use Rattle.plan_layout.specs.Edges.{after, edge_numbers, fetch_of, fetches_of, reader_of, reads_fragment, target_of}
use Rattle.plan_layout.specs.Filters.{AreFiltersFor, by_ids, filters_built, filters_for, filters_from, filters_of_scan, scan_filters, with_filter}
use Rattle.plan_layout.specs.Layouts.{driver_numbers, fragment_pipes, laid, layout_of, numbered, site_of, with_fetches}
use Rattle.plan_layout.specs.Pipes.{PipeForm, TargetForm, readers, result, side}
use Rattle.plan_layout.specs.Sides.{Site, built_for, pipes_of, sides_of}
use Rattle.plan_layout.specs.Steps.{side_count}
use Rattle.plan_layout.proofs.ScanFilterLemmas.{scan_filters_are_for}
use Rattle.plan_link_laws.specs.Consistent.{IsConsistent}
use Rattle.plan_link_laws.proofs.CountLemmas.{one_if}
use Rattle.net_laws.proofs.FilterCountLemmas.{filter_ids, filters_among, filters_at, filters_once}

module _ (n : ℕ) where
  -- how many filters of the id the pipe builds
  abbrev held : PipeForm → ℕ
  held pipe = filter_ids n (filters_built pipe.target)

  abbrev held_in : List PipeForm → ℕ
  held_in [] = 0
  held_in (pipe ∷ pipes) = held pipe + held_in pipes

  held_append : (xs ys : List PipeForm) → held_in (xs ++ ys) ≡ held_in xs + held_in ys
  held_append [] ys = omega arith
  held_append (x ∷ xs) ys = omega (arith, held_append xs ys)

  sides_held : (s : Site) (own next : ℕ) (x : NodeForm) → held_in (sides_of s own next x) ≡ filters_at n x
  sides_held s own next (node.scan id place columns types) = refl
  sides_held s own next (node.values id types list) = refl
  sides_held s own next (node.remote id number) = refl
  sides_held s own next (node.step id operator input) = sides_held s own next input
  sides_held s own next (node.join id kind on filters left right) =
      let at = next + side_count left in
      let cut = held_append (sides_of s own next left) (pipes_of s at (built_for id on filters) right) in
      omega (arith, cut, sides_held s own next left, sides_held s at (at + 1) right)
  sides_held s own next (node.union id left right) =
      let at = next + 1 + side_count left in
      let cut = held_append (pipes_of s next (side own) left) (pipes_of s at (side own) right) in
      omega (arith, cut, sides_held s next (next + 1) left, sides_held s at (at + 1) right)

  numbered_held : (numbers : Series) (pipes : List PipeForm) → held_in (numbered numbers pipes) ≡ held_in pipes
  numbered_held numbers [] = refl
  numbered_held numbers (pipe ∷ pipes) = ap (λ (k : ℕ). held pipe + k) (numbered_held (after pipe.drivers numbers) pipes)

  fetches_held : (numbers : Series) (at : ℕ) (own : List PipeForm) → held_in (fetches_of numbers at own) ≡ 0
  fetches_held numbers at [] = refl
  fetches_held numbers at (pipe ∷ own) = by (reads_fragment pipe.source) (fetches_held (after 1 numbers) (at + 1) own) (fetches_held numbers (at + 1) own)
    where
      by : (b : Bool) → held_in (fetches_of (after 1 numbers) (at + 1) own) ≡ 0 → held_in (fetches_of numbers (at + 1) own) ≡ 0
          → held_in (if b then fetch_of pipe at numbers ∷ fetches_of (after 1 numbers) (at + 1) own else fetches_of numbers (at + 1) own) ≡ 0
      by true more none = omega (arith, more)
      by false more none = none

  block_held : (s : Site) (done : List PipeForm) (target : TargetForm) (root : NodeForm) → filters_built target ≡ []
      → held_in (fragment_pipes s done target root) ≡ filters_at n root
  block_held s done target root none =
      let at = length done in
      let own = pipes_of s at target root in
      let all = with_fetches done own in
      let fetches = fetches_of (edge_numbers done own) at own in
      let not : filter_ids n (filters_built target) ≡ 0 = ap (filter_ids n) none in
      let whole : held_in own ≡ filters_at n root = omega (arith, not, sides_held s at (at + 1) root) in
      numbered_held (driver_numbers done all) all ∙ omega (arith, held_append own fetches, fetches_held (edge_numbers done own) at own, whole)

  root_builds_none : (first : Bool) (output : Output) (at : ℕ) → filters_built (if first then result else readers output at) ≡ []
  root_builds_none true output at = refl
  root_builds_none false output at = refl

  all_held : (p : Parallelism) (fragments : List FragmentForm) (fs : List FragmentForm) (number : ℕ) (done : List PipeForm)
      → held_in (laid p fragments number done fs) ≡ held_in done + filters_among n fs
  all_held p fragments [] number done = omega arith
  all_held p fragments (f ∷ fs) number done =
      let s = site_of p fragments number f in
      let target = target_of number f.output done in
      let block = fragment_pipes s done target f.root in
      omega (
        arith,
        all_held p fragments fs (number + 1) (done ++ block),
        held_append done block,
        block_held s done target f.root (root_builds_none (number == 0) f.output (reader_of number done)),
      )

  -- how many of the filters at their places have the id
  abbrev placed_ids : List PlacedFilter → ℕ
  placed_ids [] = 0
  placed_ids (f ∷ fs) = one_if (f.filter.id == n) + placed_ids fs

  placed_append : (xs ys : List PlacedFilter) → placed_ids (xs ++ ys) ≡ placed_ids xs + placed_ids ys
  placed_append [] ys = omega arith
  placed_append (x ∷ xs) ys = omega (arith, placed_append xs ys)

  placed_with : (f : PlacedFilter) (gs : List PlacedFilter) → placed_ids (with_filter f gs) ≡ one_if (f.filter.id == n) + placed_ids gs
  placed_with f [] = refl
  placed_with f (g ∷ gs) = by (nat_lt f.filter.id g.filter.id) (placed_with f gs)
    where
      by : (b : Bool) → placed_ids (with_filter f gs) ≡ one_if (f.filter.id == n) + placed_ids gs
          → placed_ids (if b then f ∷ g ∷ gs else g ∷ with_filter f gs) ≡ one_if (f.filter.id == n) + placed_ids (g ∷ gs)
      by true rest = refl
      by false rest = omega (arith, rest)

  placed_in_order : (fs : List PlacedFilter) → placed_ids (by_ids fs) ≡ placed_ids fs
  placed_in_order [] = refl
  placed_in_order (f ∷ fs) = omega (arith, placed_with f (by_ids fs), placed_in_order fs)

  placed_for : (scan at place : ℕ) (fs : List DynamicFilter) → placed_ids (filters_for scan at place fs) ≤ filter_ids n fs
  placed_for scan at place [] = omega arith
  placed_for scan at place (f ∷ fs) = by (f.scan == scan) (placed_for scan at (place + 1) fs)
    where
      by : (b : Bool) → placed_ids (filters_for scan at (place + 1) fs) ≤ filter_ids n fs
          → placed_ids (if b then record { pipe = at; place = place; filter = f } ∷ filters_for scan at (place + 1) fs else filters_for scan at (place + 1) fs) ≤ filter_ids n (f ∷ fs)
      by true rest = omega (arith, rest)
      by false rest = omega (arith, rest)

  placed_from : (scan at : ℕ) (pipes : List PipeForm) → placed_ids (filters_from scan at pipes) ≤ held_in pipes
  placed_from scan at [] = omega arith
  placed_from scan at (pipe ∷ pipes) =
      omega (
        arith,
        placed_from scan (at + 1) pipes,
        placed_for scan at 0 (filters_built pipe.target),
        placed_append (filters_for scan at 0 (filters_built pipe.target)) (filters_from scan (at + 1) pipes),
      )

  -- two places with the id
  counted_one : (fs : List PlacedFilter) (j : ℕ) (g : PlacedFilter) → slice_get fs j ≡ Some g → g.filter.id ≡ n → 1 ≤ placed_ids fs
  counted_one [] j g is same = absurd cc
  counted_one (f ∷ fs) zero g is same =
      let one : f ≡ g = cc in
      let here : one_if (f.filter.id == n) ≡ 1 = ap one_if (eq-eqb f.filter.id n (ap (λ (h : PlacedFilter). h.filter.id) one ∙ same)) in
      omega (arith, here)
  counted_one (f ∷ fs) (suc j) g is same = omega (arith, counted_one fs j g is same)

  counted_two : (fs : List PlacedFilter) (k : ℕ) (f g : PlacedFilter) → slice_get fs k ≡ Some f → slice_get fs (suc k) ≡ Some g → f.filter.id ≡ n
      → g.filter.id ≡ n → 2 ≤ placed_ids fs
  counted_two [] k f g is next same also = absurd cc
  counted_two (x ∷ fs) zero f g is next same also =
      let one : x ≡ f = cc in
      let here : one_if (x.filter.id == n) ≡ 1 = ap one_if (eq-eqb x.filter.id n (ap (λ (h : PlacedFilter). h.filter.id) one ∙ same)) in
      omega (arith, here, counted_one fs 0 g next also)
  counted_two (x ∷ fs) (suc k) f g is next same also = omega (arith, counted_two fs k f g is next same also)

-- what is at a place of the ids
placed_at : (fs : List PlacedFilter) (k : ℕ) → k < length (map (λ (f : PlacedFilter). f.filter.id) fs)
    → (f : PlacedFilter) × (slice_get fs k ≡ Some f) × (get_or (map (λ (f : PlacedFilter). f.filter.id) fs) k 0 ≡ f.filter.id)
placed_at [] k within = absurd (omega (arith, within))
placed_at (f ∷ fs) zero within = (f, refl, refl)
placed_at (f ∷ fs) (suc k) within = placed_at fs k (omega (arith, within))

module _ (plan : PlanForm) (consistent : IsConsistent plan) (p : Parallelism) where
  abbrev layout : List PipeForm
  layout = layout_of p plan

  few : (n scan : ℕ) → placed_ids n (by_ids (filters_from scan 0 layout)) ≤ 1
  few n scan = omega (
    arith,
    placed_in_order n (filters_from scan 0 layout),
    placed_from n scan 0 layout,
    all_held n p plan.fragments plan.fragments 0 [],
    filters_once n plan consistent,
  )

  abbrev Rise : List PlacedFilter → Type 0
  Rise fs = IsStrictlyIncreasing (map (λ (f : PlacedFilter). f.filter.id) fs)

  rise : (scan : ℕ) (fs : List PlacedFilter) → AreFiltersFor layout scan fs → ((n : ℕ) → placed_ids n fs ≤ 1) → Rise fs
  rise scan fs are once k within =
      let f = placed_at fs k (omega (arith, within)) in
      let g = placed_at fs (k + 1) within in
      let next : k + 1 ≡ suc k = omega arith in
      let there = subst (λ (i : ℕ). slice_get fs i ≡ Some g.0) next g.1 in
      let up = are.ascending k (k + 1) f.0 g.0 (omega arith) f.1 g.1 in
      let differ : f.0.filter.id ≡ g.0.filter.id → ⊥ = λ same.
      let two = counted_two g.0.filter.id fs k f.0 g.0 f.1 there same refl in
      omega (arith, once g.0.filter.id, two) in
      omega (arith, up, differ, f.2, g.2)

  rise_by : (pipe : PipeForm) (read : Option ℕ) → pipe.scan ≡ read → Rise (filters_of_scan layout read)
  rise_by pipe None is = λ k within. absurd (omega (arith, within))
  rise_by pipe (Some scan) is =
      rise scan (by_ids (filters_from scan 0 layout)) (subst (λ (o : Option ℕ). AreFiltersFor layout scan (filters_of_scan layout o)) is (scan_filters_are_for layout pipe scan is)) (λ n. few n scan)

  -- the ids of a scan's filters
  pub scan_ids_rise : (pipe : PipeForm) → Rise (scan_filters layout pipe)
  scan_ids_rise pipe = rise_by pipe pipe.scan refl
