-- The pipes of a fragment lie together, those of its root and below first: what is said of the fragment is at the place
-- of its root, or below it.
use Rattle.std.proofs.Common.{◌≡◌, ℕ, ◌+◌, ◌<◌, ◌≤◌, suc, zero, List, [], ◌∷◌, ◌++◌, length, map, true, ◌⊎◌, inl, inr, refl, ap, ◌∙◌, subst, arith, Some}
use Rattle.std.specs.Prelude.{option_map, slice_get}
use Rattle.std.proofs.lemmas.Bool.{cases_order}
use Rattle.plan_docs.specs.Nodes.{NodeForm}
use Rattle.plan_docs.specs.Nodes as node
use Rattle.plan_docs.specs.Plans.{FragmentForm}
use Rattle.plan_layout.specs.declared.pipe.Parallelism.{Parallelism}
use Rattle.plan_layout.specs.declared.pipe.Series.{Series}
use Rattle.plan_layout.specs.Edges.{after, target_of}
use Rattle.plan_layout.specs.Layouts.{fragment_pipes, laid, numbered, site_of}
use Rattle.plan_layout.specs.Pipes.{PipeForm, SourceForm, StepForm, TargetForm, side}
use Rattle.plan_layout.specs.Runs.{HasScan, PipeAt, Runs, bare}
use Rattle.plan_layout.specs.Sides.{Site, built_for, pipe_of, pipes_of, sides_of}
use Rattle.plan_layout.specs.Steps.{scan_read, side_count, source_of, steps_of}
use Rattle.plan_layout.proofs.PipeLemmas.{each_block, each_numbered}
use Rattle.plan_layout.proofs.SideLemmas.{Stand, get_left, get_right, length_append, side_length}
use Rattle.plan_spreads.proofs.EachLemmas.{Each, each_at, each_join, each_weaker}
use Rattle.net_laws.specs.Reached.{is_fetching}
use Rattle.net_laws.proofs.CoverLemmas.{Holds, in_sum}
use Rattle.net_laws.proofs.FetchOnceLemmas.{length_numbered}

-- pipes stand in a layout one behind the other
pub stand_left : (layout : List PipeForm) (at : ℕ) (xs ys : List PipeForm) → Stand layout at (xs ++ ys) → Stand layout at xs
stand_left layout at xs ys stand k lt =
    let more : k < length (xs ++ ys) = omega (arith, lt, length_append xs ys) in
    stand k more ∙ ap (option_map bare) (get_left xs ys k lt)

pub stand_right : (layout : List PipeForm) (at : ℕ) (xs ys : List PipeForm) (n : ℕ) → at + length xs ≡ n → Stand layout at (xs ++ ys) → Stand layout n ys
stand_right layout at xs ys n long stand k lt =
    let place : n + k ≡ at + (length xs + k) = omega (arith, long) in
    let less : length xs + k < length (xs ++ ys) = omega (arith, lt, length_append xs ys) in
    ap (slice_get layout) place ∙ stand (length xs + k) less ∙ ap (option_map bare) (get_right xs ys k)

pub stand_next : (layout : List PipeForm) (at : ℕ) (x : PipeForm) (xs : List PipeForm) → Stand layout at (x ∷ xs) → Stand layout (at + 1) xs
stand_next layout at x xs stand k lt =
    let place : at + 1 + k ≡ at + suc k = omega arith in
    let less : suc k < length (x ∷ xs) = omega (arith, lt) in
    ap (slice_get layout) place ∙ stand (suc k) less

pub stand_first : (layout : List PipeForm) (at : ℕ) (x : PipeForm) (xs : List PipeForm) → Stand layout at (x ∷ xs) → slice_get layout at ≡ Some (bare x)
stand_first layout at x xs stand =
    let place : at ≡ at + 0 = omega arith in
    let some : 0 < length (x ∷ xs) = omega arith in
    ap (slice_get layout) place ∙ stand 0 some

-- a place of a pipe and those below it
own_or_below : (place at count : ℕ) → at ≤ place → place < at + (1 + count) → (place ≡ at) ⊎ ((at + 1 ≤ place) × (place < at + 1 + count))
own_or_below place at count low high = by (cases_order place at)
  where
    by : (place ≡ at) ⊎ ((place < at) ⊎ (at < place)) → (place ≡ at) ⊎ ((at + 1 ≤ place) × (place < at + 1 + count))
    by (inl same) = inl same
    by (inr (inl less)) = absurd (omega (arith, low, less))
    by (inr (inr more)) = let least : at + 1 ≤ place = omega (arith, more) in let most : place < at + 1 + count = omega (arith, high) in inr (least, most)

-- or of two parts one behind the other
either_part : (place from middle end : ℕ) → from ≤ place → place < end → ((from ≤ place) × (place < middle)) ⊎ ((middle ≤ place) × (place < end))
either_part place from middle end low high = by (cases_order place middle)
  where
    by : (place ≡ middle) ⊎ ((place < middle) ⊎ (middle < place)) → ((from ≤ place) × (place < middle)) ⊎ ((middle ≤ place) × (place < end))
    by (inl same) = let least : middle ≤ place = omega (arith, same) in inr (least, high)
    by (inr (inl less)) = inl (low, less)
    by (inr (inr more)) = let least : middle ≤ place = omega (arith, more) in inr (least, high)

module _ (layout : List PipeForm) (s : Site) (Told : ℕ → ℕ → Type 0) where
  -- the node runs, and at all places from `next` on are the pipes that begin below it
  abbrev pub Laid : (own next : ℕ) (n : NodeForm) (source : SourceForm) (steps : List StepForm) → Type 0
  Laid own next n source steps =
      (r : Runs layout s own n source steps) × ((place : ℕ) → next ≤ place → place < next + side_count n → Holds layout s Told place own n source steps r)

  abbrev pub LaidNode : ℕ → ℕ → NodeForm → Type 0
  LaidNode own next n = Laid own next n (source_of n) (steps_of s.fragments next n)

  pub pipe_laid : (at : ℕ) (target : TargetForm) (n : NodeForm) → (Stand layout (at + 1) (sides_of s at (at + 1) n) → HasScan layout at (scan_read n) → LaidNode at (at + 1) n)
      → Stand layout at (pipes_of s at target n) → PipeAt layout s target at (Laid at (at + 1) n)
  pipe_laid at target n runs stand = record {
    pipe = pipe_of s (at + 1) target n;
    is = stand_first layout at (pipe_of s (at + 1) target n) (sides_of s at (at + 1) n) stand;
    part = refl;
    tasks = refl;
    drivers = refl;
    has = refl;
    below = runs (stand_next layout at (pipe_of s (at + 1) target n) (sides_of s at (at + 1) n) stand)
        (record { pipe = pipe_of s (at + 1) target n; is = stand_first layout at (pipe_of s (at + 1) target n) (sides_of s at (at + 1) n) stand; scan = refl });
  }

  -- its place is one of these
  abbrev pub AtPipe : (at : ℕ) (target : TargetForm) (n : NodeForm) → PipeAt layout s target at (Laid at (at + 1) n) → ℕ → Type 0
  AtPipe at target n p place = (place ≡ at) ⊎ Holds layout s Told place at n p.pipe.source p.pipe.steps p.below.0

  pub at_pipe : (at : ℕ) (target : TargetForm) (n : NodeForm) (p : PipeAt layout s target at (Laid at (at + 1) n)) (place : ℕ) → at ≤ place → place < at + (1 + side_count n)
      → AtPipe at target n p place
  at_pipe at target n p place low high = in_sum (λ same. same) (λ inside. p.below.1 place inside.0 inside.1) (own_or_below place at (side_count n) low high)

  pub nodes_laid : (own next : ℕ) (n : NodeForm) → Stand layout next (sides_of s own next n) → HasScan layout own (scan_read n) → LaidNode own next n
  nodes_laid own next (node.scan id table columns types) stand reads = ((refl, refl, reads), λ place low high. absurd (omega (arith, low, high)))
  nodes_laid own next (node.values id types list) stand reads = ((refl, refl), λ place low high. absurd (omega (arith, low, high)))
  nodes_laid own next (node.remote id number) stand reads = ((refl, refl), λ place low high. absurd (omega (arith, low, high)))
  nodes_laid own next (node.step id operator input) stand reads =
      let below = nodes_laid own next input stand reads in ((steps_of s.fragments next input, refl, below.0), below.1)
  nodes_laid own next (node.join id kind on filters left right) stand reads =
      let at = next + side_count left in
      let before = sides_of s own next left in
      let beside = pipes_of s at (built_for id on filters) right in
      let long : next + length before ≡ at = omega (arith, side_length s own next left) in
      let built = pipe_laid at (built_for id on filters) right (nodes_laid at (at + 1) right) (stand_right layout next before beside at long stand) in
      let below = nodes_laid own next left (stand_left layout next before beside stand) reads in (
        (
          at,
          record { pipe = built.pipe; is = built.is; part = built.part; tasks = built.tasks; drivers = built.drivers; has = built.has; below = built.below.0 },
          (steps_of s.fragments next left, refl, below.0),
        ),
        (λ place low high.
            by_part (λ inside. at_pipe at (built_for id on filters) right built place inside.0 (omega (arith, inside.1))) (λ inside. below.1 place inside.0 inside.1)
            (either_part place next at (next + side_count (node.join id kind on filters left right)) low high)),
      )
    where
      by_part : {A B C D : Type 0} → (B → C) → (A → D) → A ⊎ B → C ⊎ D
      by_part f g (inl a) = inr (g a)
      by_part f g (inr b) = inl (f b)
  nodes_laid own next (node.union id left right) stand reads =
      let at = next + 1 + side_count left in
      let first = pipes_of s next (side own) left in
      let second = pipes_of s at (side own) right in
      let long : next + length first ≡ at = omega (arith, side_length s next (next + 1) left) in
      let one = pipe_laid next (side own) left (nodes_laid next (next + 1) left) (stand_left layout next first second stand) in
      let two = pipe_laid at (side own) right (nodes_laid at (at + 1) right) (stand_right layout next first second at long stand) in (
        (
          refl,
          refl,
          (next, record { pipe = one.pipe; is = one.is; part = one.part; tasks = one.tasks; drivers = one.drivers; has = one.has; below = one.below.0 }),
          (at, record { pipe = two.pipe; is = two.is; part = two.part; tasks = two.tasks; drivers = two.drivers; has = two.has; below = two.below.0 }),
          omega arith,
        ),
        (λ place low high.
            in_sum (λ inside. at_pipe next (side own) left one place inside.0 (omega (arith, inside.1)))
            (λ inside. at_pipe at (side own) right two place inside.0 (omega (arith, inside.1)))
            (either_part place next at (next + side_count (node.union id left right)) low high)),
      )

-- the pipes of a fragment without and with their numbers
get_bare : (pipes : List PipeForm) (k : ℕ) → slice_get (map bare pipes) k ≡ option_map bare (slice_get pipes k)
get_bare [] k = refl
get_bare (pipe ∷ pipes) zero = refl
get_bare (pipe ∷ pipes) (suc k) = get_bare pipes k

get_numbered : (numbers : Series) (pipes : List PipeForm) (k : ℕ) → option_map bare (slice_get (numbered numbers pipes) k) ≡ option_map bare (slice_get pipes k)
get_numbered numbers [] k = refl
get_numbered numbers (pipe ∷ pipes) zero = refl
get_numbered numbers (pipe ∷ pipes) (suc k) = get_numbered (after pipe.drivers numbers) pipes k

append_append : (xs ys zs : List PipeForm) → (xs ++ ys) ++ zs ≡ xs ++ (ys ++ zs)
append_append [] ys zs = refl
append_append (x ∷ xs) ys zs = ap (λ rest. x ∷ rest) (append_append xs ys zs)

append_none : (xs : List PipeForm) → xs ≡ xs ++ []
append_none [] = refl
append_none (x ∷ xs) = ap (λ rest. x ∷ rest) (append_none xs)

pub stands : (numbers : Series) (done own fetches more : List PipeForm) → Stand (map bare (done ++ (numbered numbers (own ++ fetches) ++ more))) (length done) own
stands numbers done own fetches more k lt =
    let all = numbered numbers (own ++ fetches) in
    let less : k < length all = omega (arith, lt, length_append own fetches, length_numbered numbers (own ++ fetches)) in
    get_bare (done ++ (all ++ more)) (length done + k)
    ∙ ap (option_map bare) (get_right done (all ++ more) k ∙ get_left all more k less)
    ∙ get_numbered numbers (own ++ fetches) k
    ∙ ap (option_map bare) (get_left own fetches k lt)

abbrev pub Fetches : PipeForm → Type 0
Fetches pipe = is_fetching pipe.target ≡ true

pub own_or_fetch : (numbers : Series) (own fetches : List PipeForm) → Each Fetches fetches → (k : ℕ) (pipe : PipeForm) → slice_get (numbered numbers (own ++ fetches)) k ≡ Some pipe
    → (k < length own) ⊎ Fetches pipe
own_or_fetch numbers [] fetches each k pipe is = inr (each_at Fetches (numbered numbers fetches) k pipe is (each_numbered Fetches (λ one more h. h) numbers fetches each))
own_or_fetch numbers (x ∷ own) fetches each zero pipe is = inl (omega arith)
own_or_fetch numbers (x ∷ own) fetches each (suc k) pipe is =
    in_sum (λ lt. omega (arith, lt)) (λ h. h) (own_or_fetch (after x.drivers numbers) own fetches each k pipe is)

module _ (p : Parallelism) (fragments : List FragmentForm) where
  abbrev pub block_of : ℕ → List PipeForm → FragmentForm → List PipeForm
  block_of number done f = fragment_pipes (site_of p fragments number f) done (target_of number f.output done) f.root

  abbrev pub Before : ℕ → PipeForm → Type 0
  Before number pipe = pipe.fragment < number

  -- the pipes of the fragment stand between those of the others
  pub record HasBlock (layout : List PipeForm) (number : ℕ) (f : FragmentForm) : Type 0 where
    pub done : List PipeForm
    pub more : List PipeForm
    pub are : layout ≡ done ++ (block_of number done f ++ more)
    pub earlier : Each (Before number) done
    pub later : Each (λ pipe. number < pipe.fragment) more

  -- those of the fragments from this number on
  record Behind (number : ℕ) (done layout : List PipeForm) : Type 0 where
    more : List PipeForm
    are : layout ≡ done ++ more
    later : Each (λ pipe. number ≤ pipe.fragment) more

  pub of_block : (P : PipeForm → Type 0) (number : ℕ) (done : List PipeForm) (f : FragmentForm) → ((pipe : PipeForm) → pipe.fragment ≡ number → P pipe) → Each P (block_of number done f)
  of_block P number done f one =
      each_weaker (λ pipe. pipe.fragment ≡ number) P one (block_of number done f)
      (each_block (λ pipe. pipe.fragment ≡ number) (site_of p fragments number f) (λ next target n. refl) (λ pipe at numbers h. h) (λ pipe numbers h. h) done
      (target_of number f.output done) f.root)

  behind : (fs : List FragmentForm) (number : ℕ) (done : List PipeForm) → Behind number done (laid p fragments number done fs)
  behind [] number done = record { more = []; are = append_none done; later = tt }
  behind (f ∷ fs) number done =
      let block = block_of number done f in
      let next = behind fs (number + 1) (done ++ block) in
      record {
        more = block ++ next.more;
        are = next.are ∙ append_append done block next.more;
        later = each_join (λ pipe. number ≤ pipe.fragment) block next.more (of_block (λ pipe. number ≤ pipe.fragment) number done f (λ pipe h. omega (arith, h)))
            (each_weaker (λ pipe. number + 1 ≤ pipe.fragment) (λ pipe. number ≤ pipe.fragment) (λ pipe h. omega (arith, h)) next.more next.later);
      }

  pub all_blocks : (fs : List FragmentForm) (number : ℕ) (done : List PipeForm) → Each (Before number) done → (k : ℕ) (f : FragmentForm) → slice_get fs k ≡ Some f
      → HasBlock (laid p fragments number done fs) (number + k) f
  all_blocks [] number done before k f is = absurd cc
  all_blocks (g ∷ fs) number done before zero f is =
      let block = block_of number done g in
      let next = behind fs (number + 1) (done ++ block) in
      let same : g ≡ f = cc is in
      let at : number ≡ number + 0 = omega arith in
      let here : HasBlock (laid p fragments number done (g ∷ fs)) number g = record {
        done = done;
        more = next.more;
        are = next.are ∙ append_append done block next.more;
        earlier = before;
        later = each_weaker (λ pipe. number + 1 ≤ pipe.fragment) (λ pipe. number < pipe.fragment) (λ pipe h. omega (arith, h)) next.more next.later;
      } in
      subst (λ (n : ℕ). HasBlock (laid p fragments number done (g ∷ fs)) n f) at (subst (HasBlock (laid p fragments number done (g ∷ fs)) number) same here)
  all_blocks (g ∷ fs) number done before (suc k) f is =
      let block = block_of number done g in
      let at : number + 1 + k ≡ number + suc k = omega arith in
      subst (λ (n : ℕ). HasBlock (laid p fragments number done (g ∷ fs)) n f) at
      (all_blocks fs (number + 1) (done ++ block)
      (each_join (Before (number + 1)) done block (each_weaker (Before number) (Before (number + 1)) (λ pipe h. omega (arith, h)) done before)
      (of_block (Before (number + 1)) number done g (λ pipe h. omega (arith, h)))) k f is)
