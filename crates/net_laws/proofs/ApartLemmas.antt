-- In the layout of a consistent plan one pipe builds the right side of a join, and one reads a scan: there are no more of an id
-- than the plan has scans and joins of it.
use Rattle.std.proofs.Common.{◌≡◌, ℕ, ◌+◌, ◌≤◌, suc, zero, List, [], ◌∷◌, ◌++◌, length, Bool, true, false, Option, Some, None, refl, ap, sym, ◌∙◌, subst, arith}
use Rattle.std.specs.Prelude.{slice_get, ◌==◌, if◌then◌else◌}
use Rattle.std.proofs.lemmas.Bool.{eq-eqb}
use Rattle.plan_docs.specs.declared.plan.Output.{Output}
use Rattle.plan_docs.specs.Nodes.{NodeForm}
use Rattle.plan_docs.specs.Nodes as node
use Rattle.plan_docs.specs.Plans.{FragmentForm, PlanForm}
use Rattle.plan_layout.specs.declared.pipe.Parallelism.{Parallelism}
use Rattle.plan_layout.specs.declared.pipe.Series.{Series}
use Rattle.plan_layout.specs.Edges.{after, edge_numbers, fetch_of, fetches_of, reader_of, reads_fragment, target_of}
use Rattle.plan_layout.specs.Filters.{Builds}
use Rattle.plan_layout.specs.Layouts.{driver_numbers, fragment_pipes, laid, layout_of, numbered, site_of, with_fetches}
use Rattle.plan_layout.specs.Pipes.{BuildForm, PipeForm, TargetForm, cell, readers, result, side}
use Rattle.plan_layout.specs.Runs.{HasScan}
use Rattle.plan_layout.specs.Sides.{Site, built_for, pipes_of, sides_of}
use Rattle.plan_layout.specs.Steps.{scan_read, side_count}
use Rattle.plan_link_laws.specs.Consistent.{IsConsistent}
use Rattle.plan_link_laws.proofs.CountLemmas.{one_if}
use Rattle.net_laws.specs.BuiltFilters.{PipesApart}
use Rattle.net_laws.proofs.JoinPlanLemmas.{plan_once}
use Rattle.net_laws.proofs.ReadCountLemmas.{ids_among, ids_at}

abbrev is_built : ℕ → TargetForm → Bool
is_built n (cell build) = build.join == n
is_built n target = false

abbrev is_read : ℕ → Option ℕ → Bool
is_read n (Some scan) = scan == n
is_read n None = false

module _ (n : ℕ) where
  -- whether the pipe builds for the join of the id, or reads the scan of it
  abbrev held : PipeForm → ℕ
  held pipe = one_if (is_built n pipe.target) + one_if (is_read n pipe.scan)

  abbrev held_in : List PipeForm → ℕ
  held_in [] = 0
  held_in (pipe ∷ pipes) = held pipe + held_in pipes

  held_append : (xs ys : List PipeForm) → held_in (xs ++ ys) ≡ held_in xs + held_in ys
  held_append [] ys = omega arith
  held_append (x ∷ xs) ys = omega (arith, held_append xs ys)

  sides_held : (s : Site) (own next : ℕ) (x : NodeForm) → one_if (is_read n (scan_read x)) + held_in (sides_of s own next x) ≡ ids_at n x
  sides_held s own next (node.scan id place columns types) = omega arith
  sides_held s own next (node.values id types list) = refl
  sides_held s own next (node.remote id number) = refl
  sides_held s own next (node.step id operator input) = sides_held s own next input
  sides_held s own next (node.join id kind on filters left right) =
      let at = next + side_count left in
      let cut = held_append (sides_of s own next left) (pipes_of s at (built_for id on filters) right) in
      omega (arith, cut, sides_held s own next left, sides_held s at (at + 1) right)
  sides_held s own next (node.union id left right) =
      let at = next + 1 + side_count left in
      let cut = held_append (pipes_of s next (side own) left) (pipes_of s at (side own) right) in
      omega (arith, cut, sides_held s next (next + 1) left, sides_held s at (at + 1) right)

  numbered_held : (numbers : Series) (pipes : List PipeForm) → held_in (numbered numbers pipes) ≡ held_in pipes
  numbered_held numbers [] = refl
  numbered_held numbers (pipe ∷ pipes) = ap (λ (k : ℕ). held pipe + k) (numbered_held (after pipe.drivers numbers) pipes)

  fetches_held : (numbers : Series) (at : ℕ) (own : List PipeForm) → held_in (fetches_of numbers at own) ≡ 0
  fetches_held numbers at [] = refl
  fetches_held numbers at (pipe ∷ own) = by (reads_fragment pipe.source) (fetches_held (after 1 numbers) (at + 1) own) (fetches_held numbers (at + 1) own)
    where
      by : (b : Bool) → held_in (fetches_of (after 1 numbers) (at + 1) own) ≡ 0 → held_in (fetches_of numbers (at + 1) own) ≡ 0
          → held_in (if b then fetch_of pipe at numbers ∷ fetches_of (after 1 numbers) (at + 1) own else fetches_of numbers (at + 1) own) ≡ 0
      by true more none = omega (arith, more)
      by false more none = none

  block_held : (s : Site) (done : List PipeForm) (target : TargetForm) (root : NodeForm) → is_built n target ≡ false → held_in (fragment_pipes s done target root) ≡ ids_at n root
  block_held s done target root none =
      let at = length done in
      let own = pipes_of s at target root in
      let all = with_fetches done own in
      let fetches = fetches_of (edge_numbers done own) at own in
      let not : one_if (is_built n target) ≡ 0 = ap one_if none in
      let whole : held_in own ≡ ids_at n root = omega (arith, not, sides_held s at (at + 1) root) in
      numbered_held (driver_numbers done all) all ∙ omega (arith, held_append own fetches, fetches_held (edge_numbers done own) at own, whole)

  root_builds_none : (first : Bool) (output : Output) (at : ℕ) → is_built n (if first then result else readers output at) ≡ false
  root_builds_none true output at = refl
  root_builds_none false output at = refl

  all_held : (p : Parallelism) (fragments : List FragmentForm) (fs : List FragmentForm) (number : ℕ) (done : List PipeForm)
      → held_in (laid p fragments number done fs) ≡ held_in done + ids_among n fs
  all_held p fragments [] number done = omega arith
  all_held p fragments (f ∷ fs) number done =
      let s = site_of p fragments number f in
      let target = target_of number f.output done in
      let block = fragment_pipes s done target f.root in
      omega (
        arith,
        all_held p fragments fs (number + 1) (done ++ block),
        held_append done block,
        block_held s done target f.root (root_builds_none (number == 0) f.output (reader_of number done)),
      )

  held_at : (pipes : List PipeForm) (j : ℕ) (pipe : PipeForm) → slice_get pipes j ≡ Some pipe → held pipe ≤ held_in pipes
  held_at [] j pipe is = absurd cc
  held_at (x ∷ pipes) zero pipe is = let same : x ≡ pipe = cc in subst (λ (q : PipeForm). held q ≤ held x + held_in pipes) same (omega arith)
  held_at (x ∷ pipes) (suc j) pipe is = omega (arith, held_at pipes j pipe is)

  one_place : (pipes : List PipeForm) (i j : ℕ) (pipe other : PipeForm) → slice_get pipes i ≡ Some pipe → slice_get pipes j ≡ Some other → 1 ≤ held pipe → 1 ≤ held other
      → held_in pipes ≤ 1 → i ≡ j
  one_place [] i j pipe other is there first second most = absurd cc
  one_place (x ∷ pipes) zero zero pipe other is there first second most = refl
  one_place (x ∷ pipes) zero (suc j) pipe other is there first second most =
      let same : x ≡ pipe = cc in
      let here : held x ≡ held pipe = ap held same in
      absurd (omega (arith, here, held_at pipes j other there, first, second, most))
  one_place (x ∷ pipes) (suc i) zero pipe other is there first second most =
      let same : x ≡ other = cc in
      let here : held x ≡ held other = ap held same in
      absurd (omega (arith, here, held_at pipes i pipe is, first, second, most))
  one_place (x ∷ pipes) (suc i) (suc j) pipe other is there first second most =
      ap suc (one_place pipes i j pipe other is there first second (omega (arith, most)))

  builds_it : (layout : List PipeForm) (i : ℕ) (build : BuildForm) (b : Builds layout i build) → build.join ≡ n → 1 ≤ held b.pipe
  builds_it layout i build b is =
      let own : one_if (is_built n b.pipe.target) ≡ 1 = ap (λ (t : TargetForm). one_if (is_built n t)) b.gives ∙ ap one_if (eq-eqb build.join n is) in
      omega (arith, own)

  reads_it : (layout : List PipeForm) (i scan : ℕ) (h : HasScan layout i (Some scan)) → scan ≡ n → 1 ≤ held h.pipe
  reads_it layout i scan h is =
      let own : one_if (is_read n h.pipe.scan) ≡ 1 = ap (λ (o : Option ℕ). one_if (is_read n o)) h.scan ∙ ap one_if (eq-eqb scan n is) in
      omega (arith, own)

pub plan_pipes_apart : (plan : PlanForm) → IsConsistent plan → (p : Parallelism) → PipesApart (layout_of p plan)
plan_pipes_apart plan c p =
    let layout = layout_of p plan in
    let most : (n : ℕ) → held_in n layout ≤ 1 = λ n. omega (arith, all_held n p plan.fragments plan.fragments 0 [], plan_once n plan c) in
    record {
      builds = λ i j build other b d same.
          one_place build.join layout i j b.pipe d.pipe b.is d.is (builds_it build.join layout i build b refl) (builds_it build.join layout j other d (sym same)) (most build.join);
      scans = λ i j scan h k. one_place scan layout i j h.pipe k.pipe h.is k.is (reads_it scan layout i scan h refl) (reads_it scan layout j scan k refl) (most scan);
    }
