-- What gives to a union is one of its two sides, and what gives to a pipe that reads a fragment is the pipe of its root.
use Rattle.std.proofs.Common.{◌≡◌, ℕ, ◌+◌, ◌<◌, ◌≤◌, suc, zero, List, [], ◌∷◌, ◌++◌, length, map, Bool, true, false, ◌⊎◌, inl, inr, refl, ap, sym, ◌∙◌, subst, arith, Some}
use Rattle.std.specs.Prelude.{option_map, slice_get, ◌==◌, if◌then◌else◌}
use Rattle.std.proofs.lemmas.Bool.{cases_order, eqb-true}
use Rattle.plan_docs.specs.declared.plan.Output.{Output}
use Rattle.plan_docs.specs.Plans.{FragmentForm, PlanForm}
use Rattle.plan_layout.specs.declared.pipe.Parallelism.{Parallelism}
use Rattle.plan_layout.specs.Edges.{count_if, reader_of, target_of}
use Rattle.plan_layout.specs.Layouts.{layout_of, site_of}
use Rattle.plan_layout.specs.Pipes.{PipeForm, TargetForm, fragment, readers, result, side, sides}
use Rattle.plan_layout.specs.Runs.{bare}
use Rattle.plan_layout.specs.Sides.{Site, pipe_of, pipes_of, sides_of}
use Rattle.plan_layout.specs.Steps.{side_count, source_of}
use Rattle.plan_layout.proofs.PipeLemmas.{each_pipe}
use Rattle.plan_layout.proofs.SideLemmas.{Stand, side_length}
use Rattle.plan_spreads.proofs.EachLemmas.{Each, each_at}
use Rattle.net_laws.specs.Givers.{GiveToReaders, GiveToUnions, HasSource, HasTarget}
use Rattle.net_laws.specs.Reached.{is_fetching}
use Rattle.net_laws.specs.Readers.{IsReader}
use Rattle.net_laws.proofs.BlockLemmas.{HasBlock, all_blocks, block_of, stand_first, stand_next}
use Rattle.net_laws.proofs.GiverLemmas.{HasUnion, Names, NoReader, NoResult, few_sides, gives, has_three, is_the_side, no_reader, no_result, side_is, sides_name, sides_to, unions}
use Rattle.net_laws.proofs.LayoutLaneLemmas.{plan_manned}
use Rattle.net_laws.proofs.ReachLemmas.{all_later, in_own, stand}
use Rattle.net_laws.proofs.ReaderLemmas.{same_reader}
use Rattle.net_laws.proofs.UnderLemmas.{there_below}

-- a pipe without its numbers
record Known (layout : List PipeForm) (place : ℕ) (known : PipeForm) : Type 0 where
  pipe : PipeForm
  is : slice_get layout place ≡ Some pipe
  same : bare pipe ≡ known

known_at : (layout : List PipeForm) (place : ℕ) (known : PipeForm) → slice_get (map bare layout) place ≡ Some known → Known layout place known
known_at [] place known is = absurd cc
known_at (pipe ∷ layout) zero known is = record { pipe = pipe; is = refl; same = cc is }
known_at (pipe ∷ layout) (suc place) known is = let rest = known_at layout place known is in record { pipe = rest.pipe; is = rest.is; same = rest.same }

get_bare : (layout : List PipeForm) (place : ℕ) (pipe : PipeForm) → slice_get layout place ≡ Some pipe → slice_get (map bare layout) place ≡ Some (bare pipe)
get_bare [] place pipe is = absurd cc
get_bare (x ∷ layout) zero pipe is = let same : x ≡ pipe = cc is in ap (λ (q : PipeForm). Some (bare q)) same
get_bare (x ∷ layout) (suc place) pipe is = get_bare layout place pipe is

-- the item of a list below its length
record There (xs : List PipeForm) (k : ℕ) : Type 0 where
  item : PipeForm
  is : slice_get xs k ≡ Some item

there : (xs : List PipeForm) (k : ℕ) → k < length xs → There xs k
there [] k lt = absurd (omega (arith, lt))
there (x ∷ xs) zero lt = record { item = x; is = refl }
there (x ∷ xs) (suc k) lt = let r = there xs k (omega (arith, lt)) in record { item = r.item; is = r.is }

minus : (n m : ℕ) → m ≤ n → (k : ℕ) × (n ≡ m + k)
minus n zero le = (n, omega arith)
minus zero (suc m) le = absurd (omega (arith, le))
minus (suc n) (suc m) le = let r = minus n m (omega (arith, le)) in (r.0, omega (arith, r.1))

-- what stands at a place of a fragment's own pipes
record Stands (layout : List PipeForm) (at : ℕ) (own : List PipeForm) (place : ℕ) (pipe : PipeForm) : Type 0 where
  k : ℕ
  is : place ≡ at + k
  item : PipeForm
  has : slice_get own k ≡ Some item
  same : bare pipe ≡ bare item

stands_at : (layout : List PipeForm) (at : ℕ) (own : List PipeForm) (place : ℕ) (pipe : PipeForm) → Stand (map bare layout) at own → at ≤ place → place < at + length own
    → slice_get layout place ≡ Some pipe → Stands layout at own place pipe
stands_at layout at own place pipe stand low high is = found (minus place at low)
  where
    found : (k : ℕ) × (place ≡ at + k) → Stands layout at own place pipe
    found (k, so) =
        let t = there own k (omega (arith, so, high)) in
        let here : slice_get (map bare layout) place ≡ Some (bare t.item) = ap (slice_get (map bare layout)) so ∙ stand k (omega (arith, so, high)) ∙ ap (option_map bare) t.is in
        let both : Some (bare pipe) ≡ Some (bare t.item) = sym (get_bare layout place pipe is) ∙ here in
        record { k = k; is = so; item = t.item; has = t.is; same = cc both }

abbrev IsPart : ℕ → PipeForm → Type 0
IsPart number pipe = pipe.fragment ≡ number

module _ (p : Parallelism) (plan : PlanForm) where
  abbrev layout : List PipeForm
  layout = layout_of p plan

  pub block : (n : ℕ) (f : FragmentForm) → slice_get plan.fragments n ≡ Some f → HasBlock p plan.fragments layout n f
  block n f is =
      let none : 0 + n ≡ n = omega arith in
      subst (λ (i : ℕ). HasBlock p plan.fragments layout i f) none (all_blocks p plan.fragments plan.fragments 0 [] tt n f is)

  module _ (number : ℕ) (f : FragmentForm) (is_there : slice_get plan.fragments number ≡ Some f) where
    abbrev b : HasBlock p plan.fragments layout number f
    b = block number f is_there

    abbrev s : Site
    s = site_of p plan.fragments number f

    abbrev at : ℕ
    at = length b.done

    abbrev target : TargetForm
    target = target_of number f.output b.done

    abbrev pipes : List PipeForm
    pipes = pipes_of s at target f.root

    stand_own : Stand (map bare layout) at pipes
    stand_own = stand layout p plan.fragments number f b

    long : length pipes ≡ 1 + side_count f.root
    long = omega (arith, side_length s at (at + 1) f.root)

    -- a pipe of the fragment that does not fetch stands among its own
    own_at : (place : ℕ) (pipe : PipeForm) → slice_get layout place ≡ Some pipe → pipe.fragment ≡ number → is_fetching pipe.target ≡ false → Stands layout at pipes place pipe
    own_at place pipe is part stays =
        let inside = in_own layout p plan.fragments number f b place (record { pipe = pipe; is = is; part = part; stays = stays }) in
        stands_at layout at pipes place pipe stand_own inside.0 (omega (arith, inside.1, long)) is

    not_side : (b : Bool) (output : Output) (x y : ℕ) → (if b then result else readers output y) ≡ side x → ⊥
    not_side true output x y is = absurd cc
    not_side false output x y is = absurd cc

    abbrev Below : PipeForm → Type 0
    Below = Names at (at + 1) (at + 1 + side_count f.root)

    names : Each Below pipes
    names = ((λ x is. absurd (not_side (number == 0) f.output x (reader_of number b.done) is)), sides_name s at (at + 1) f.root)

    few : (x : ℕ) → sides_to x pipes ≤ 2
    few x = by (gives x (pipe_of s (at + 1) target f.root)) refl
      where
        by : (c : Bool) → gives x (pipe_of s (at + 1) target f.root) ≡ c → sides_to x pipes ≤ 2
        by true is = absurd (not_side (number == 0) f.output x (reader_of number b.done) (side_is x target is))
        by false is = let here = ap (λ (c : Bool). count_if c 1) is in omega (arith, here, few_sides s x at (at + 1) f.root (omega arith))

    source_at : HasSource (map bare layout) at (source_of f.root)
    source_at = record {
      pipe = bare (pipe_of s (at + 1) target f.root);
      is = stand_first (map bare layout) at (pipe_of s (at + 1) target f.root) (sides_of s at (at + 1) f.root) stand_own;
      takes = refl;
    }

    stand_below : Stand (map bare layout) (at + 1) (sides_of s at (at + 1) f.root)
    stand_below = stand_next (map bare layout) at (pipe_of s (at + 1) target f.root) (sides_of s at (at + 1) f.root) stand_own

    all_unions : Each (HasUnion (map bare layout) s) pipes
    all_unions = ((λ x is. absurd (not_side (number == 0) f.output x (reader_of number b.done) is)), unions (map bare layout) s at (at + 1) f.root stand_below source_at)

    abbrev IsHere : PipeForm → Type 0
    IsHere pipe = pipe.fragment ≡ number

    all_here : Each IsHere pipes
    all_here = each_pipe IsHere s (λ next aim n. refl) at target f.root

    target_same : (pipe item : PipeForm) → bare pipe ≡ bare item → item.target ≡ pipe.target
    target_same pipe item same = sym (ap (λ (q : PipeForm). q.target) same)

    -- what a pipe of the fragment gives to stands among its own
    record Union (x : ℕ) : Type 0 where
      own : PipeForm
      is : slice_get layout x ≡ Some own
      takes : own.source ≡ sides
      part : own.fragment ≡ number

    union_of : (place : ℕ) (pipe : PipeForm) (x : ℕ) → slice_get layout place ≡ Some pipe → pipe.fragment ≡ number → pipe.target ≡ side x → Union x
    union_of place pipe x is part gives_x =
        let stays : is_fetching pipe.target ≡ false = ap is_fetching gives_x in
        let here = own_at place pipe is part stays in
        let item_gives = target_same pipe here.item here.same ∙ gives_x in
        let source = each_at (HasUnion (map bare layout) s) pipes here.k here.item here.has all_unions x item_gives in
        let real = known_at layout x source.pipe source.is in
        let inside = each_at Below pipes here.k here.item here.has names x item_gives in
        record {
          own = real.pipe;
          is = real.is;
          takes = ap (λ (q : PipeForm). q.source) real.same ∙ source.takes;
          part = ap (λ (q : PipeForm). q.fragment) real.same ∙ part_at source.pipe source.is (within inside);
        }
      where
        within : (x ≡ at) ⊎ ((at + 1 ≤ x) × (x < at + 1 + side_count f.root)) → (k : ℕ) × (x ≡ at + k) × (k < length pipes)
        within (inl same) = let so : x ≡ at + 0 = omega (arith, same) in let lt : 0 < length pipes = omega (arith, long) in (0, so, lt)
        within (inr (low, high)) =
            let r = minus x at (omega (arith, low)) in
            (r.0, r.1, omega (arith, r.1, high, long))

        part_at : (known : PipeForm) → slice_get (map bare layout) x ≡ Some known → (k : ℕ) × (x ≡ at + k) × (k < length pipes) → known.fragment ≡ number
        part_at known is (k, so, lt) =
            let t = there pipes k lt in
            let here : slice_get (map bare layout) x ≡ Some (bare t.item) = ap (slice_get (map bare layout)) so ∙ stand_own k lt ∙ ap (option_map bare) t.is in
            let same : known ≡ bare t.item = cc (is, here) in
            ap (λ (q : PipeForm). q.fragment) same ∙ each_at IsHere pipes k t.item t.is all_here

    three : (x i j k : ℕ) (p q r : PipeForm) → i < j → j < k → slice_get layout i ≡ Some p → slice_get layout j ≡ Some q → slice_get layout k ≡ Some r
        → p.fragment ≡ number → q.fragment ≡ number → r.fragment ≡ number → p.target ≡ side x → q.target ≡ side x → r.target ≡ side x → ⊥
    three x i j k p q r lt more is so has a b c gives_p gives_q gives_r =
        let one = own_at i p is a (ap is_fetching gives_p) in
        let two = own_at j q so b (ap is_fetching gives_q) in
        let last = own_at k r has c (ap is_fetching gives_r) in
        let most = has_three x pipes one.k two.k last.k one.item two.item last.item (omega (arith, lt, one.is, two.is)) (omega (arith, more, two.is, last.is))
        one.has (is_the_side x one.item.target (target_same p one.item one.same ∙ gives_p))
        two.has (is_the_side x two.item.target (target_same q two.item two.same ∙ gives_q))
        last.has (is_the_side x last.item.target (target_same r last.item last.same ∙ gives_r)) in
        absurd (omega (arith, most, few x))

    -- the pipe of the root is the one that gives to a reader
    root_only : (place : ℕ) (pipe : PipeForm) (output : Output) (x : ℕ) → slice_get layout place ≡ Some pipe → pipe.fragment ≡ number → pipe.target ≡ readers output x
        → (place ≡ at) × (target ≡ readers output x)
    root_only place pipe output x is part gives_x =
        let here = own_at place pipe is part (ap is_fetching gives_x) in
        by here.k here.item here.is here.has (target_same pipe here.item here.same ∙ gives_x)
      where
        by : (k : ℕ) (item : PipeForm) → place ≡ at + k → slice_get pipes k ≡ Some item → item.target ≡ readers output x → (place ≡ at) × (target ≡ readers output x)
        by zero item so has gives_it =
            let same : pipe_of s (at + 1) target f.root ≡ item = cc has in
            let place_is : place ≡ at = omega (arith, so) in
            (place_is, ap (λ (q : PipeForm). q.target) same ∙ gives_it)
        by (suc k) item so has gives_it = absurd (each_at NoReader (sides_of s at (at + 1) f.root) k item has (no_reader s at (at + 1) f.root) output x gives_it)

    -- and so it is of the result, which fragment 0 gives
    result_only : (place : ℕ) (pipe : PipeForm) → slice_get layout place ≡ Some pipe → pipe.fragment ≡ number → pipe.target ≡ result → (place ≡ at) × (target ≡ result)
    result_only place pipe is part gives_it =
        let here = own_at place pipe is part (ap is_fetching gives_it) in
        by here.k here.item here.is here.has (target_same pipe here.item here.same ∙ gives_it)
      where
        by : (k : ℕ) (item : PipeForm) → place ≡ at + k → slice_get pipes k ≡ Some item → item.target ≡ result → (place ≡ at) × (target ≡ result)
        by zero item so has so_is =
            let same : pipe_of s (at + 1) target f.root ≡ item = cc has in
            let place_is : place ≡ at = omega (arith, so) in
            (place_is, ap (λ (q : PipeForm). q.target) same ∙ so_is)
        by (suc k) item so has so_is = absurd (each_at NoResult (sides_of s at (at + 1) f.root) k item has (no_result s at (at + 1) f.root) so_is)

  -- the fragment of a pipe
  record PartOf (pipe : PipeForm) : Type 0 where
    f : FragmentForm
    is : slice_get plan.fragments pipe.fragment ≡ Some f

  part_of : (place : ℕ) (pipe : PipeForm) → slice_get layout place ≡ Some pipe → PartOf pipe
  part_of place pipe is = let m = plan_manned p plan place pipe is in record { f = m.part; is = m.is }

  its_union : (place x : ℕ) (pipe : PipeForm) → slice_get layout place ≡ Some pipe → (gives_x : pipe.target ≡ side x) → (own : PipeForm) × (slice_get layout x ≡ Some own) × (own.source ≡ sides) × (own.fragment ≡ pipe.fragment)
  its_union place x pipe is gives_x =
      let m = part_of place pipe is in
      let u = union_of pipe.fragment m.f m.is place pipe x is refl gives_x in
      (u.own, u.is, u.takes, u.part)

  same_part : (x i j : ℕ) (p q : PipeForm) → slice_get layout i ≡ Some p → slice_get layout j ≡ Some q → p.target ≡ side x → q.target ≡ side x → q.fragment ≡ p.fragment
  same_part x i j p q is so gives_p gives_q =
      let a = its_union i x p is gives_p in
      let b = its_union j x q so gives_q in
      let both : b.0 ≡ a.0 = cc (a.1, b.1) in
      sym b.3 ∙ ap (λ (r : PipeForm). r.fragment) both ∙ a.3

  pub give_to_unions : GiveToUnions layout
  give_to_unions = record {
    union = λ x i h. let u = its_union i x h.pipe h.is h.gives in record { pipe = u.0; is = u.1; takes = u.2 };
    two = λ x i j k lt g h l. by x i j k lt g h l (cases_order k i) (cases_order k j);
  }
    where
      none : (x i j k : ℕ) → i < j → j < k → HasTarget layout i (side x) → HasTarget layout j (side x) → HasTarget layout k (side x) → ⊥
      none x i j k lt more g h l =
          let m = part_of i g.pipe g.is in
          three g.pipe.fragment m.f m.is x i j k g.pipe h.pipe l.pipe lt more g.is h.is l.is refl (same_part x i j g.pipe h.pipe g.is h.is g.gives h.gives)
          (same_part x i k g.pipe l.pipe g.is l.is g.gives l.gives) g.gives h.gives l.gives

      by : (x i j k : ℕ) → i < j → HasTarget layout i (side x) → HasTarget layout j (side x) → HasTarget layout k (side x)
          → (k ≡ i) ⊎ ((k < i) ⊎ (i < k)) → (k ≡ j) ⊎ ((k < j) ⊎ (j < k)) → (k ≡ i) ⊎ (k ≡ j)
      by x i j k lt g h l (inl same) other = inl same
      by x i j k lt g h l (inr one) (inl same) = inr same
      by x i j k lt g h l (inr (inl less)) (inr two) = absurd (none x k i j less lt l g h)
      by x i j k lt g h l (inr (inr more)) (inr (inl less)) = absurd (none x i k j more less g l h)
      by x i j k lt g h l (inr (inr more)) (inr (inr most)) = absurd (none x i j k lt most g h l)

  -- the reader of a fragment whose root gives to a place
  module _ (read : (n : ℕ) → 0 < n → n < length plan.fragments → IsReader layout n (reader_of n layout)) where
    named : (number : ℕ) (output form : Output) (x y : ℕ) (c : Bool) → number == 0 ≡ c → (if c then result else readers form y) ≡ readers output x → (0 < number) × (y ≡ x)
    named number output form x y true zero_is is = absurd cc
    named zero output form x y false not is = absurd cc
    named (suc number) output form x y false not is = let same : y ≡ x = cc is in (omega arith, same)

    its_reader : (place x : ℕ) (pipe : PipeForm) (output : Output) → slice_get layout place ≡ Some pipe → pipe.target ≡ readers output x
        → HasSource layout x (fragment pipe.fragment)
    its_reader place x pipe output is gives_x =
        let n = pipe.fragment in
        let m = part_of place pipe is in
        let b = block n m.f m.is in
        let root = root_only n m.f m.is place pipe output x is refl gives_x in
        let told = named n output m.f.output x (reader_of n b.done) (n == 0) refl root.1 in
        let reader = read n told.0 (there_below plan.fragments n m.f m.is) in
        let same = same_reader n layout b.done (block_of p plan.fragments n b.done m.f ++ b.more) (reader_of n layout) b.are (later_at n m.f b) reader in
        subst (λ (at : ℕ). HasSource layout at (fragment n)) (sym same ∙ told.1) (record { pipe = reader.pipe; is = reader.is; takes = reader.reads })
      where
        later_at : (n : ℕ) (f : FragmentForm) (b : HasBlock p plan.fragments layout n f) (k : ℕ) (q : PipeForm) → slice_get (block_of p plan.fragments n b.done f ++ b.more) k ≡ Some q → n ≤ q.fragment
        later_at n f b k q h = each_at (λ (q : PipeForm). n ≤ q.fragment) (block_of p plan.fragments n b.done f ++ b.more) k q h (all_later layout p plan.fragments n f b)

    pub give_to_readers : GiveToReaders layout
    give_to_readers = record {
      reader = λ x i output h. (h.pipe.fragment, its_reader i x h.pipe output h.is h.gives);
      one = λ x i j output other g h. same_place x i j output other g h;
    }
      where
        same_place : (x i j : ℕ) (output other : Output) → HasTarget layout i (readers output x) → HasTarget layout j (readers other x) → i ≡ j
        same_place x i j output other g h =
            let a = its_reader i x g.pipe output g.is g.gives in
            let b = its_reader j x h.pipe other h.is h.gives in
            let pipes_same : b.pipe ≡ a.pipe = cc (a.is, b.is) in
            let sources : fragment h.pipe.fragment ≡ fragment g.pipe.fragment = sym b.takes ∙ ap (λ (q : PipeForm). q.source) pipes_same ∙ a.takes in
            let parts : h.pipe.fragment ≡ g.pipe.fragment = cc sources in
            let m = part_of i g.pipe g.is in
            let one = root_only g.pipe.fragment m.f m.is i g.pipe output x g.is refl g.gives in
            let two = root_only g.pipe.fragment m.f m.is j h.pipe other x h.is parts h.gives in
            one.0 ∙ sym two.0

  -- the pipe of the result, where fragment 0 is in one task
  zero_of : (n : ℕ) (form : Output) (y : ℕ) (c : Bool) → n == 0 ≡ c → (if c then result else readers form y) ≡ result → n ≡ 0
  zero_of n form y true zero_is is = eqb-true n 0 zero_is
  zero_of n form y false not is = absurd cc

  pub result_at : (place : ℕ) (pipe : PipeForm) → slice_get layout place ≡ Some pipe → pipe.target ≡ result
      → (pipe.fragment ≡ 0) × ((f : FragmentForm) (there : slice_get plan.fragments 0 ≡ Some f) → place ≡ length (HasBlock.done {p = p} (block 0 f there)))
  result_at place pipe is gives_it =
      let m = part_of place pipe is in
      let root = result_only pipe.fragment m.f m.is place pipe is refl gives_it in
      let first = zero_of pipe.fragment m.f.output (reader_of pipe.fragment (block pipe.fragment m.f m.is).done) (pipe.fragment == 0) refl root.1 in
      (first, λ f so. (result_only 0 f so place pipe is first gives_it).0)
