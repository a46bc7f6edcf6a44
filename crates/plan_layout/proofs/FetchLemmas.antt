-- For each pipe that reads a fragment another fetches.
use Rattle.std.proofs.Common.{◌≡◌, ℕ, ◌+◌, ◌<◌, suc, zero, List, [], ◌∷◌, ◌++◌, length, Bool, true, false, ◌⊎◌, inl, inr, refl, ap, sym, ◌∙◌, subst, arith, Some}
use Rattle.std.specs.Prelude.{slice_get, if◌then◌else◌}
use Rattle.plan_docs.specs.Plans.{FragmentForm, PlanForm}
use Rattle.plan_layout.specs.declared.pipe.Parallelism.{Parallelism}
use Rattle.plan_layout.specs.declared.pipe.Series.{Series}
use Rattle.plan_layout.specs.Edges.{after, edge_numbers, fetch_of, fetches_of, reads_fragment, target_of}
use Rattle.plan_layout.specs.Layouts.{driver_numbers, laid, layout_of, numbered, site_of}
use Rattle.plan_layout.specs.Pipes.{PipeForm}
use Rattle.plan_layout.specs.Runs.{AreFetched, HasFetcher}
use Rattle.plan_layout.specs.Sides.{pipes_of}
use Rattle.plan_layout.proofs.SideLemmas.{get_left, get_right}

-- a pipe that has got its numbers, and what it was before
record Numbered (pipes : List PipeForm) (k : ℕ) (pipe : PipeForm) : Type 0 where
  numbers : Series
  bare : PipeForm
  is : slice_get pipes k ≡ Some bare
  same : pipe ≡ record bare { numbers = numbers }

of_numbered : (numbers : Series) (pipes : List PipeForm) (k : ℕ) (pipe : PipeForm) → slice_get (numbered numbers pipes) k ≡ Some pipe → Numbered pipes k pipe
of_numbered numbers [] k pipe is = absurd cc
of_numbered numbers (first ∷ pipes) zero pipe is = record { numbers = numbers; bare = first; is = refl; same = cc }
of_numbered numbers (first ∷ pipes) (suc k) pipe is =
    let rest = of_numbered (after first.drivers numbers) pipes k pipe is in
    record { numbers = rest.numbers; bare = rest.bare; is = rest.is; same = rest.same }

record IsNumbered (pipes : List PipeForm) (k : ℕ) (bare : PipeForm) : Type 0 where
  numbers : Series
  is : slice_get pipes k ≡ Some (record bare { numbers = numbers })

to_numbered : (numbers : Series) (pipes : List PipeForm) (k : ℕ) (bare : PipeForm) → slice_get pipes k ≡ Some bare → IsNumbered (numbered numbers pipes) k bare
to_numbered numbers [] k bare is = absurd cc
to_numbered numbers (first ∷ pipes) zero bare is =
    let same : first ≡ bare = cc in
    record { numbers = numbers; is = ap (λ (p : PipeForm). Some (record p { numbers = numbers })) same }
to_numbered numbers (first ∷ pipes) (suc k) bare is =
    let rest = to_numbered (after first.drivers numbers) pipes k bare is in
    record { numbers = rest.numbers; is = rest.is }

-- it stands among what fetches
record Found (pipe : PipeForm) (at : ℕ) (fetches : List PipeForm) : Type 0 where
  place : ℕ
  numbers : Series
  is : slice_get fetches place ≡ Some (fetch_of pipe at numbers)

module _ (pipe : PipeForm) (at : ℕ) where
  found_here : (b : Bool) (numbers : Series) (more none : List PipeForm) → b ≡ true → Found pipe at (if b then fetch_of pipe at numbers ∷ more else none)
  found_here true numbers more none so = record { place = 0; numbers = numbers; is = refl }
  found_here false numbers more none so = absurd cc

  found_there : (b : Bool) (first : PipeForm) (more none : List PipeForm) → Found pipe at more → Found pipe at none → Found pipe at (if b then first ∷ more else none)
  found_there true first more none f g = record { place = suc f.place; numbers = f.numbers; is = f.is }
  found_there false first more none f g = g

found : (numbers : Series) (at : ℕ) (own : List PipeForm) (k : ℕ) (pipe : PipeForm) → slice_get own k ≡ Some pipe → reads_fragment pipe.source ≡ true
    → Found pipe (at + k) (fetches_of numbers at own)
found numbers at [] k pipe is so = absurd cc
found numbers at (first ∷ own) zero pipe is so =
    let same : pipe ≡ first = cc in
    let place : at ≡ at + 0 = omega arith in
    subst (λ (p : PipeForm). Found p (at + 0) (fetches_of numbers at (first ∷ own))) (sym same)
    (subst (λ (n : ℕ). Found first n (fetches_of numbers at (first ∷ own))) place
    (found_here first at (reads_fragment first.source) numbers (fetches_of (after 1 numbers) (at + 1) own) (fetches_of numbers (at + 1) own)
    (ap (λ (p : PipeForm). reads_fragment p.source) (sym same) ∙ so)))
found numbers at (first ∷ own) (suc k) pipe is so =
    let place : at + 1 + k ≡ at + suc k = omega arith in
    subst (λ (n : ℕ). Found pipe n (fetches_of numbers at (first ∷ own))) place
    (found_there pipe (at + 1 + k) (reads_fragment first.source) (fetch_of first at numbers) (fetches_of (after 1 numbers) (at + 1) own) (fetches_of numbers (at + 1) own)
    (found (after 1 numbers) (at + 1) own k pipe is so) (found numbers (at + 1) own k pipe is so))

-- what fetches reads no fragment itself
NoneReads : List PipeForm → Type 0
NoneReads pipes = (k : ℕ) (pipe : PipeForm) → slice_get pipes k ≡ Some pipe → reads_fragment pipe.source ≡ false

none_in : (b : Bool) (first : PipeForm) (more none : List PipeForm) → reads_fragment first.source ≡ false → NoneReads more → NoneReads none → NoneReads (if b then first ∷ more else none)
unfolding NoneReads
none_in true first more none not f g zero pipe is = let same : pipe ≡ first = cc in ap (λ (p : PipeForm). reads_fragment p.source) same ∙ not
none_in true first more none not f g (suc k) pipe is = f k pipe is
none_in false first more none not f g k pipe is = g k pipe is

none_reads : (numbers : Series) (at : ℕ) (own : List PipeForm) → NoneReads (fetches_of numbers at own)
unfolding NoneReads
none_reads numbers at [] k pipe is = absurd cc
none_reads numbers at (first ∷ own) k pipe is =
    none_in (reads_fragment first.source) (fetch_of first at numbers) (fetches_of (after 1 numbers) (at + 1) own) (fetches_of numbers (at + 1) own) refl
    (none_reads (after 1 numbers) (at + 1) own) (none_reads numbers (at + 1) own) k pipe is

none_at : (numbers : Series) (at : ℕ) (own : List PipeForm) (k : ℕ) (pipe : PipeForm) → slice_get (fetches_of numbers at own) k ≡ Some pipe → reads_fragment pipe.source ≡ false
unfolding NoneReads
none_at numbers at own = none_reads numbers at own

-- a place in two lists one behind the other is in the first, or in the second
pub in_either : (xs ys : List PipeForm) (k : ℕ) (pipe : PipeForm) → slice_get (xs ++ ys) k ≡ Some pipe
    → (slice_get xs k ≡ Some pipe) ⊎ (j : ℕ) × (k ≡ length xs + j) × (slice_get ys j ≡ Some pipe)
in_either [] ys k pipe is = let none : k ≡ 0 + k = omega arith in inr (k, none, is)
in_either (x ∷ xs) ys zero pipe is = inl is
in_either (x ∷ xs) ys (suc k) pipe is = behind (in_either xs ys k pipe is)
  where
    behind : (slice_get xs k ≡ Some pipe) ⊎ (j : ℕ) × (k ≡ length xs + j) × (slice_get ys j ≡ Some pipe)
        → (slice_get (x ∷ xs) (suc k) ≡ Some pipe) ⊎ (j : ℕ) × (suc k ≡ length (x ∷ xs) + j) × (slice_get ys j ≡ Some pipe)
    behind (inl here) = inl here
    behind (inr (j, at, there)) = let next : suc k ≡ length (x ∷ xs) + j = omega (arith, at) in inr (j, next, there)

pub is_below : (xs : List PipeForm) (k : ℕ) (pipe : PipeForm) → slice_get xs k ≡ Some pipe → k < length xs
is_below [] k pipe is = absurd cc
is_below (x ∷ xs) zero pipe is = omega arith
is_below (x ∷ xs) (suc k) pipe is = omega (arith, is_below xs k pipe is)

still_fetched : (done more : List PipeForm) (at n : ℕ) → HasFetcher done at n → HasFetcher (done ++ more) at n
still_fetched done more at n f = record {
  place = f.place;
  pipe = f.pipe;
  is = get_left done more f.place (is_below done f.place f.pipe f.is) ∙ f.is;
  alone = f.alone;
  tasks = f.tasks;
  numbers = f.numbers;
  source = f.source;
  target = f.target;
}

module _ (drivers edges : Series) (done own : List PipeForm) (fetched : AreFetched done) where
  abbrev fetches : List PipeForm
  fetches = fetches_of edges (length done) own

  abbrev added : List PipeForm
  added = numbered drivers (own ++ fetches)

  own_fetched : (k : ℕ) (pipe : PipeForm) → slice_get own k ≡ Some pipe → reads_fragment pipe.source ≡ true → HasFetcher (done ++ added) (length done + k) pipe.tasks
  own_fetched k pipe is so =
      let f = found edges (length done) own k pipe is so in
      let fetch = fetch_of pipe (length done + k) f.numbers in
      let there = to_numbered drivers (own ++ fetches) (length own + f.place) fetch (get_right own fetches f.place ∙ f.is) in
      record {
        place = length done + (length own + f.place);
        pipe = record fetch { numbers = there.numbers };
        is = get_right done added (length own + f.place) ∙ there.is;
        alone = refl;
        tasks = refl;
        numbers = f.numbers;
        source = refl;
        target = refl;
      }

  new_fetched : (at k : ℕ) (pipe : PipeForm) (n : Numbered (own ++ fetches) k pipe) → at ≡ length done + k → reads_fragment n.bare.source ≡ true
      → (slice_get own k ≡ Some n.bare) ⊎ (j : ℕ) × (k ≡ length own + j) × (slice_get fetches j ≡ Some n.bare)
      → HasFetcher (done ++ added) at pipe.tasks
  new_fetched at k pipe n place so (inl mine) =
      let tasks : n.bare.tasks ≡ pipe.tasks = sym (ap (λ (p : PipeForm). p.tasks) n.same) in
      subst (λ (q : ℕ). HasFetcher (done ++ added) q pipe.tasks) (sym place)
      (subst (HasFetcher (done ++ added) (length done + k)) tasks (own_fetched k n.bare mine so))
  new_fetched at k pipe n place so (inr (j, behind, other)) = let not = none_at edges (length done) own j n.bare other in absurd cc

  pub more_fetched : AreFetched (done ++ added)
  more_fetched at pipe is so = which (in_either done added at pipe is)
    where
      which : (slice_get done at ≡ Some pipe) ⊎ (k : ℕ) × (at ≡ length done + k) × (slice_get added k ≡ Some pipe) → HasFetcher (done ++ added) at pipe.tasks
      which (inl here) = still_fetched done added at pipe.tasks (fetched at pipe here so)
      which (inr (k, place, there)) =
          let n = of_numbered drivers (own ++ fetches) k pipe there in
          let reads = ap (λ (p : PipeForm). reads_fragment p.source) (sym n.same) ∙ so in
          new_fetched at k pipe n place reads (in_either own fetches k n.bare n.is)

module _ (p : Parallelism) (fragments : List FragmentForm) where
  all_fetched : (fs : List FragmentForm) (number : ℕ) (done : List PipeForm) → AreFetched done → AreFetched (laid p fragments number done fs)
  all_fetched [] number done fetched = fetched
  all_fetched (f ∷ fs) number done fetched =
      let own = pipes_of (site_of p fragments number f) (length done) (target_of number f.output done) f.root in
      let edges = edge_numbers done own in
      let drivers = driver_numbers done (own ++ fetches_of edges (length done) own) in
      all_fetched fs (number + 1) (done ++ numbered drivers (own ++ fetches_of edges (length done) own)) (more_fetched drivers edges done own fetched)

pub plan_fetched : (p : Parallelism) (plan : PlanForm) → AreFetched (layout_of p plan)
plan_fetched p plan = all_fetched p plan.fragments plan.fragments 0 [] (λ at pipe is so. absurd cc)
