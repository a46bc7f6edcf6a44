-- What gives to a union: in the pipes of a fragment, each side names the pipe of its union, and no union has a third.
use Rattle.std.proofs.Common.{◌≡◌, ℕ, ◌+◌, ◌<◌, ◌≤◌, suc, zero, List, [], ◌∷◌, ◌++◌, length, Bool, true, false, ◌⊎◌, inl, inr, refl, ap, sym, ◌∙◌, subst, arith, Some}
use Rattle.std.specs.Prelude.{slice_get, ◌==◌}
use Rattle.std.proofs.lemmas.Bool.{cases_order, eqb-true, eq-eqb}
use Rattle.plan_docs.specs.declared.plan.Output.{Output}
use Rattle.plan_docs.specs.Nodes.{NodeForm}
use Rattle.plan_docs.specs.Nodes as node
use Rattle.plan_layout.specs.Edges.{count_if}
use Rattle.plan_layout.specs.Pipes.{PipeForm, TargetForm, cell, side, sides, result, readers, takers}
use Rattle.plan_layout.specs.Runs.{bare}
use Rattle.plan_layout.specs.Sides.{Site, built_for, pipe_of, pipes_of, sides_of}
use Rattle.plan_layout.specs.Steps.{side_count, source_of}
use Rattle.plan_layout.proofs.SideLemmas.{Stand, side_length}
use Rattle.plan_spreads.proofs.EachLemmas.{Each, each_join, each_weaker}
use Rattle.net_laws.specs.Givers.{HasSource}
use Rattle.net_laws.proofs.BlockLemmas.{stand_first, stand_left, stand_next, stand_right}

abbrev pub is_side : ℕ → TargetForm → Bool
is_side at (side other) = other == at
is_side at result = false
is_side at (cell build) = false
is_side at (readers output other) = false
is_side at (takers other) = false

abbrev pub gives : ℕ → PipeForm → Bool
gives at pipe = is_side at pipe.target

pub side_is : (at : ℕ) (target : TargetForm) → is_side at target ≡ true → target ≡ side at
side_is at (side other) h = ap side (eqb-true other at h)
side_is at target h = absurd cc

pub is_the_side : (at : ℕ) (target : TargetForm) → target ≡ side at → is_side at target ≡ true
is_the_side at target is = ap (is_side at) is ∙ eq-eqb at at refl

-- how many of the pipes give to the place
abbrev pub sides_to : ℕ → List PipeForm → ℕ
sides_to at [] = 0
sides_to at (pipe ∷ pipes) = count_if (gives at pipe) 1 + sides_to at pipes

pub sides_append : (at : ℕ) (xs ys : List PipeForm) → sides_to at (xs ++ ys) ≡ sides_to at xs + sides_to at ys
sides_append at [] ys = omega arith
sides_append at (x ∷ xs) ys = omega (arith, sides_append at xs ys)

-- three places of a list that pass are counted as three
has_one : (at : ℕ) (xs : List PipeForm) (i : ℕ) (p : PipeForm) → slice_get xs i ≡ Some p → gives at p ≡ true → 1 ≤ sides_to at xs
has_one at [] i p is h = absurd cc
has_one at (x ∷ xs) zero p is h =
    let same : x ≡ p = cc is in
    let here = ap (λ (b : Bool). count_if b 1) (ap (gives at) same ∙ h) in
    omega (arith, here)
has_one at (x ∷ xs) (suc i) p is h = omega (arith, has_one at xs i p is h)

has_two : (at : ℕ) (xs : List PipeForm) (i j : ℕ) (p q : PipeForm) → i < j → slice_get xs i ≡ Some p → gives at p ≡ true → slice_get xs j ≡ Some q → gives at q ≡ true
    → 2 ≤ sides_to at xs
has_two at [] i j p q lt is h so g = absurd cc
has_two at (x ∷ xs) zero zero p q lt is h so g = absurd (omega (arith, lt))
has_two at (x ∷ xs) zero (suc j) p q lt is h so g =
    let same : x ≡ p = cc is in
    let here = ap (λ (b : Bool). count_if b 1) (ap (gives at) same ∙ h) in
    omega (arith, here, has_one at xs j q so g)
has_two at (x ∷ xs) (suc i) zero p q lt is h so g = absurd (omega (arith, lt))
has_two at (x ∷ xs) (suc i) (suc j) p q lt is h so g =
    omega (arith, has_two at xs i j p q (omega (arith, lt)) is h so g)

pub has_three : (at : ℕ) (xs : List PipeForm) (i j k : ℕ) (p q r : PipeForm) → i < j → j < k → slice_get xs i ≡ Some p → gives at p ≡ true
    → slice_get xs j ≡ Some q → gives at q ≡ true → slice_get xs k ≡ Some r → gives at r ≡ true → 3 ≤ sides_to at xs
has_three at [] i j k p q r lt more is h so g there f = absurd cc
has_three at (x ∷ xs) zero zero k p q r lt more is h so g there f = absurd (omega (arith, lt))
has_three at (x ∷ xs) zero (suc j) zero p q r lt more is h so g there f = absurd (omega (arith, more))
has_three at (x ∷ xs) zero (suc j) (suc k) p q r lt more is h so g there f =
    let same : x ≡ p = cc is in
    let here = ap (λ (b : Bool). count_if b 1) (ap (gives at) same ∙ h) in
    omega (arith, here, has_two at xs j k q r (omega (arith, more)) so g there f)
has_three at (x ∷ xs) (suc i) zero k p q r lt more is h so g there f = absurd (omega (arith, lt))
has_three at (x ∷ xs) (suc i) (suc j) zero p q r lt more is h so g there f = absurd (omega (arith, more))
has_three at (x ∷ xs) (suc i) (suc j) (suc k) p q r lt more is h so g there f =
    omega (arith, has_three at xs i j k p q r (omega (arith, lt)) (omega (arith, more)) is h so g there f)

-- a side names its own pipe, or one that stands among those below
abbrev pub Names : ℕ → ℕ → ℕ → PipeForm → Type 0
Names own low high pipe = (at : ℕ) → pipe.target ≡ side at → (at ≡ own) ⊎ ((low ≤ at) × (at < high))

wider : (own other low from high to : ℕ) → (low ≤ other) → (other < to) → from ≤ to → low ≤ high → high ≤ from → (pipe : PipeForm) → Names other high from pipe → Names own low to pipe
wider own other low from high to least most less first second pipe names at is = by (names at is)
  where
    by : (at ≡ other) ⊎ ((high ≤ at) × (at < from)) → (at ≡ own) ⊎ ((low ≤ at) × (at < to))
    by (inl same) = let a : low ≤ at = omega (arith, same, least) in let b : at < to = omega (arith, same, most) in inr (a, b)
    by (inr inside) = let a : low ≤ at = omega (arith, inside.0, first) in let b : at < to = omega (arith, inside.1, less) in inr (a, b)

longer : (own low from to : ℕ) → from ≤ to → (pipe : PipeForm) → Names own low from pipe → Names own low to pipe
longer own low from to less pipe names at is = by (names at is)
  where
    by : (at ≡ own) ⊎ ((low ≤ at) × (at < from)) → (at ≡ own) ⊎ ((low ≤ at) × (at < to))
    by (inl same) = inl same
    by (inr inside) = let b : at < to = omega (arith, inside.1, less) in inr (inside.0, b)

no_side : (own low high : ℕ) (pipe : PipeForm) → ((at : ℕ) → pipe.target ≡ side at → ⊥) → Names own low high pipe
no_side own low high pipe not at is = absurd (not at is)

own_side : (own low high : ℕ) (pipe : PipeForm) → pipe.target ≡ side own → Names own low high pipe
own_side own low high pipe is at so = let same : own ≡ at = cc (is, so) in inl (sym same)

module _ (s : Site) where
  pub sides_name : (own next : ℕ) (n : NodeForm) → Each (Names own next (next + side_count n)) (sides_of s own next n)
  sides_name own next (node.scan id place columns types) = tt
  sides_name own next (node.values id types list) = tt
  sides_name own next (node.remote id number) = tt
  sides_name own next (node.step id operator input) = sides_name own next input
  sides_name own next (node.join id kind on filters left right) =
      let at = next + side_count left in
      let end = next + side_count (node.join id kind on filters left right) in
      let long : at ≤ end = omega arith in
      each_join (Names own next end) (sides_of s own next left) (pipes_of s at (built_for id on filters) right)
      (each_weaker (Names own next at) (Names own next end) (longer own next at end long) (sides_of s own next left) (sides_name own next left)) (
        no_side own next end (pipe_of s (at + 1) (built_for id on filters) right) (λ k is. cc is),
        each_weaker (Names at (at + 1) (at + 1 + side_count right)) (Names own next end)
            (wider own at next (at + 1 + side_count right) (at + 1) end (omega arith) (omega arith) (omega arith) (omega arith) (omega arith)) (sides_of s at (at + 1) right) (sides_name at (at + 1) right),
      )
  sides_name own next (node.union id left right) =
      let at = next + 1 + side_count left in
      let end = next + side_count (node.union id left right) in
      each_join (Names own next end) (pipes_of s next (side own) left) (pipes_of s at (side own) right) (
        own_side own next end (pipe_of s (next + 1) (side own) left) refl,
        each_weaker (Names next (next + 1) (next + 1 + side_count left)) (Names own next end)
            (wider own next next (next + 1 + side_count left) (next + 1) end (omega arith) (omega arith) (omega arith) (omega arith) (omega arith)) (sides_of s next (next + 1) left) (sides_name next (next + 1) left),
      ) (
        own_side own next end (pipe_of s (at + 1) (side own) right) refl,
        each_weaker (Names at (at + 1) (at + 1 + side_count right)) (Names own next end)
            (wider own at next (at + 1 + side_count right) (at + 1) end (omega arith) (omega arith) (omega arith) (omega arith) (omega arith)) (sides_of s at (at + 1) right) (sides_name at (at + 1) right),
      )

-- where each names one that another place is not, none gives to that place
none_gives : (own low high at : ℕ) → ((at ≡ own) → ⊥) → (at < low) ⊎ (high ≤ at) → (pipes : List PipeForm) → Each (Names own low high) pipes → sides_to at pipes ≡ 0
none_gives own low high at other out [] each = refl
none_gives own low high at other out (pipe ∷ pipes) each =
    omega (arith, none_here (gives at pipe) refl, none_gives own low high at other out pipes each.1)
  where
    inside : (at ≡ own) ⊎ ((low ≤ at) × (at < high)) → ⊥
    inside (inl same) = other same
    inside (inr (least, most)) = outside out least most
      where
        outside : (at < low) ⊎ (high ≤ at) → low ≤ at → at < high → ⊥
        outside (inl less) least most = absurd (omega (arith, less, least))
        outside (inr more) least most = absurd (omega (arith, more, most))

    none_here : (b : Bool) → gives at pipe ≡ b → count_if b 1 ≡ 0
    none_here true is = absurd (inside (each.0 at (side_is at pipe.target is)))
    none_here false is = refl

module _ (s : Site) where
  abbrev Few : ℕ → ℕ → ℕ → NodeForm → Type 0
  Few at own next n = sides_to at (sides_of s own next n) ≤ 2

  -- where another pipe begins, none of those of a node gives to it
  none_of : (own next at : ℕ) (n : NodeForm) → ((at ≡ own) → ⊥) → (at < next) ⊎ (next + side_count n ≤ at) → sides_to at (sides_of s own next n) ≡ 0
  none_of own next at n other out = none_gives own next (next + side_count n) at other out (sides_of s own next n) (sides_name s own next n)

  two_parts : (own next at x : ℕ) (a b : NodeForm) → own < next → next + side_count a ≤ at → Few x own next a → Few x at (at + 1) b
      → sides_to x (sides_of s own next a) + sides_to x (sides_of s at (at + 1) b) ≤ 2
  two_parts own next at x a b lt low few more = by (cases_order x at)
    where
      by : (x ≡ at) ⊎ ((x < at) ⊎ (at < x)) → sides_to x (sides_of s own next a) + sides_to x (sides_of s at (at + 1) b) ≤ 2
      by (inr (inl less)) = omega (arith, few, none_of at (at + 1) x b (λ same. omega (arith, same, less)) (inl (omega (arith, less))))
      by (inl same) = omega (arith, more, none_of own next x a (λ h. omega (arith, h, same, lt, low)) (inr (omega (arith, same, low))))
      by (inr (inr high)) = omega (arith, more, none_of own next x a (λ h. omega (arith, h, high, lt, low)) (inr (omega (arith, high, low))))

  pub few_sides : (x own next : ℕ) (n : NodeForm) → own < next → Few x own next n
  few_sides x own next (node.scan id place columns types) lt = omega arith
  few_sides x own next (node.values id types list) lt = omega arith
  few_sides x own next (node.remote id number) lt = omega arith
  few_sides x own next (node.step id operator input) lt = few_sides x own next input lt
  few_sides x own next (node.join id kind on filters left right) lt =
      let at = next + side_count left in
      let both = sides_append x (sides_of s own next left) (pipes_of s at (built_for id on filters) right) in
      let parts = two_parts own next at x left right lt (omega arith) (few_sides x own next left lt) (few_sides x at (at + 1) right (omega arith)) in
      omega (arith, both, parts)
  few_sides x own next (node.union id left right) lt =
      let at = next + 1 + side_count left in
      let both = sides_append x (pipes_of s next (side own) left) (pipes_of s at (side own) right) in
      let parts = two_parts next (next + 1) at x left right (omega arith) (omega arith) (few_sides x next (next + 1) left (omega arith)) (few_sides x at (at + 1) right (omega arith)) in
      by (own == x) refl both parts
    where
      by : (b : Bool) → own == x ≡ b
          → sides_to x (pipes_of s next (side own) left ++ pipes_of s (next + 1 + side_count left) (side own) right)
          ≡ sides_to x (pipes_of s next (side own) left) + sides_to x (pipes_of s (next + 1 + side_count left) (side own) right)
          → sides_to x (sides_of s next (next + 1) left) + sides_to x (sides_of s (next + 1 + side_count left) (next + 1 + side_count left + 1) right) ≤ 2
          → sides_to x (pipes_of s next (side own) left ++ pipes_of s (next + 1 + side_count left) (side own) right) ≤ 2
      by false is both parts =
          let here = ap (λ (b : Bool). count_if b 1) is in
          omega (arith, both, parts, here)
      by true is both parts =
          let same = eqb-true own x is in
          let here = ap (λ (b : Bool). count_if b 1) is in
          let a = none_of next (next + 1) x left (λ h. omega (arith, h, same, lt)) (inl (omega (arith, same, lt))) in
          let b = none_of (next + 1 + side_count left) (next + 1 + side_count left + 1) x right (λ h. omega (arith, h, same, lt)) (inl (omega (arith, same, lt))) in
          omega (arith, both, here, a, b)

-- each side stands where its union takes
module _ (layout : List PipeForm) (s : Site) where
  abbrev pub HasUnion : PipeForm → Type 0
  HasUnion pipe = (at : ℕ) → pipe.target ≡ side at → HasSource layout at sides

  has_first : (at : ℕ) (x : PipeForm) (xs : List PipeForm) → Stand layout at (x ∷ xs) → HasSource layout at x.source
  has_first at x xs stand = record { pipe = bare x; is = stand_first layout at x xs stand; takes = refl }

  -- the pipe of a node, and those below
  pub unions : (own next : ℕ) (n : NodeForm) → Stand layout next (sides_of s own next n) → HasSource layout own (source_of n) → Each HasUnion (sides_of s own next n)
  unions own next (node.scan id place columns types) stand here = tt
  unions own next (node.values id types list) stand here = tt
  unions own next (node.remote id number) stand here = tt
  unions own next (node.step id operator input) stand here = unions own next input stand here
  unions own next (node.join id kind on filters left right) stand here =
      let at = next + side_count left in
      let beside = pipes_of s at (built_for id on filters) right in
      let long : next + length (sides_of s own next left) ≡ at = omega (arith, side_length s own next left) in
      let stands = stand_right layout next (sides_of s own next left) beside at long stand in
      each_join HasUnion (sides_of s own next left) beside (unions own next left (stand_left layout next (sides_of s own next left) beside stand) here) (
        (λ k is. absurd cc),
        unions at (at + 1) right (stand_next layout at (pipe_of s (at + 1) (built_for id on filters) right) (sides_of s at (at + 1) right) stands)
            (has_first at (pipe_of s (at + 1) (built_for id on filters) right) (sides_of s at (at + 1) right) stands),
      )
  unions own next (node.union id left right) stand here =
      let at = next + 1 + side_count left in
      let first = pipes_of s next (side own) left in
      let second = pipes_of s at (side own) right in
      let long : next + length first ≡ at = omega (arith, side_length s next (next + 1) left) in
      let one = stand_left layout next first second stand in
      let two = stand_right layout next first second at long stand in
      each_join HasUnion first second (
        (λ k is. named k is),
        unions next (next + 1) left (stand_next layout next (pipe_of s (next + 1) (side own) left) (sides_of s next (next + 1) left) one)
            (has_first next (pipe_of s (next + 1) (side own) left) (sides_of s next (next + 1) left) one),
      ) (
        (λ k is. named k is),
        unions at (at + 1) right (stand_next layout at (pipe_of s (at + 1) (side own) right) (sides_of s at (at + 1) right) two)
            (has_first at (pipe_of s (at + 1) (side own) right) (sides_of s at (at + 1) right) two),
      )
    where
      named : (k : ℕ) → side own ≡ side k → HasSource layout k sides
      named k is = let same : own ≡ k = cc is in subst (λ (at : ℕ). HasSource layout at sides) same here

-- none of those that begin below a node gives to one that reads a fragment
abbrev pub NoReader : PipeForm → Type 0
NoReader pipe = (output : Output) (at : ℕ) → pipe.target ≡ readers output at → ⊥

module _ (s : Site) where
  pub no_reader : (own next : ℕ) (n : NodeForm) → Each NoReader (sides_of s own next n)
  no_reader own next (node.scan id place columns types) = tt
  no_reader own next (node.values id types list) = tt
  no_reader own next (node.remote id number) = tt
  no_reader own next (node.step id operator input) = no_reader own next input
  no_reader own next (node.join id kind on filters left right) =
      let at = next + side_count left in
      each_join NoReader (sides_of s own next left) (pipes_of s at (built_for id on filters) right) (no_reader own next left) ((λ output k is. cc is), no_reader at (at + 1) right)
  no_reader own next (node.union id left right) =
      let at = next + 1 + side_count left in
      each_join NoReader (pipes_of s next (side own) left) (pipes_of s at (side own) right) ((λ output k is. cc is), no_reader next (next + 1) left)
      ((λ output k is. cc is), no_reader at (at + 1) right)

-- nor gives one the result
abbrev pub NoResult : PipeForm → Type 0
NoResult pipe = pipe.target ≡ result → ⊥

module _ (s : Site) where
  pub no_result : (own next : ℕ) (n : NodeForm) → Each NoResult (sides_of s own next n)
  no_result own next (node.scan id place columns types) = tt
  no_result own next (node.values id types list) = tt
  no_result own next (node.remote id number) = tt
  no_result own next (node.step id operator input) = no_result own next input
  no_result own next (node.join id kind on filters left right) =
      let at = next + side_count left in
      each_join NoResult (sides_of s own next left) (pipes_of s at (built_for id on filters) right) (no_result own next left) ((λ is. cc is), no_result at (at + 1) right)
  no_result own next (node.union id left right) =
      let at = next + 1 + side_count left in
      each_join NoResult (pipes_of s next (side own) left) (pipes_of s at (side own) right) ((λ is. cc is), no_result next (next + 1) left)
      ((λ is. cc is), no_result at (at + 1) right)
