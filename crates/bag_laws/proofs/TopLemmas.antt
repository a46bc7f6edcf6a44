-- The top rows of pieces, gathered, sorted and cut again, are the top rows of the whole.
use Rattle.std.proofs.Common.{◌≡◌, ℕ, ◌+◌, ◌<◌, ◌≤◌, zero, suc, List, [], ◌∷◌, ◌++◌, Bool, true, false, refl, ap, sym, ◌∙◌, arith, length, take, drop, get_or, subst, length-drop, append_assoc}
use Rattle.std.specs.Prelude.{All, AllPairs, sum_by, if◌then◌else◌}
use Rattle.std.specs.declared.cmp.Ordering.{Ordering}
use Rattle.std.specs.declared.cmp.Ordering.TheVariants.{Less, Equal, Greater}
use Rattle.std.specs.Ordering.{is_lt}
use Rattle.std.proofs.lemmas.Bool.{true≢false}
use Rattle.std.proofs.lemmas.List.{drop_all, length-take, take-append-drop, take-take}
use Rattle.std.proofs.lemmas.List.Elements.{All-nil, All-cons, All-head, All-tail, All-append}
use Rattle.std.proofs.lemmas.List.Kept.{AllPairs-cons}
use Rattle.std.proofs.lemmas.List.Sorted.{All-permutation}
use Rattle.std.proofs.lemmas.List.Sums.{sum_by-append, sum_by-cons, get_or-le-sum_by}
use Rattle.sql_values.specs.declared.value.Value.{Value}
use Rattle.sql_values.specs.declared.order.KeySpec.{KeySpec}
use Rattle.sql_values.specs.Order.{IsBefore, IsOrdered, row_cmp}
use Rattle.sql_values.proofs.OrderLemmas.{row_cmp_total}
use Rattle.relation_laws.specs.Sorts.{IsSortOf}
use Rattle.relation_laws.proofs.OrderLemmas.{not_both, not_before}
use Rattle.relation_laws.proofs.SortLemmas.{AllPairs-head, AllPairs-nil, AllPairs-tail, is_sort, sorted_rows}
use Rattle.bag_laws.specs.Weights.{SameWeights}
use Rattle.bag_laws.specs.Gather.{gather}
use Rattle.bag_laws.specs.Firsts.{IsFirstOf, IsTopOf}
use Rattle.bag_laws.proofs.BagLemmas.{bag_from_same, length_by_weights, same-append, same-from_equal, same-length, same-nil, same-refl, same-sym, same-trans, same_from_bag, weight-agree, weight-sum}
use Rattle.bag_laws.proofs.GatherLemmas.{chosen, gather-agree, same-gather, weight-gather-le}
use Rattle.bag_laws.proofs.LimitLemmas.{rests-none, same-cut_parts, take-append_enough}

module _ {X : Type 0} where
  pub All-front : (P : X → Type 0) (A B : List X) → All P (A ++ B) → All P A
  All-front P [] B h = All-nil P
  All-front P (x ∷ A) B h = All-cons P x A (All-head P x (A ++ B) h) (All-front P A B (All-tail P x (A ++ B) h))

  pub All-back : (P : X → Type 0) (A B : List X) → All P (A ++ B) → All P B
  All-back P [] B h = h
  All-back P (x ∷ A) B h = All-back P A B (All-tail P x (A ++ B) h)

  pub All-gather : (P : X → Type 0) (n : ℕ) (lists : ℕ → List X) → ((k : ℕ) → k < n → All P (lists k)) → All P (gather n lists)
  All-gather P zero lists each = All-nil P
  All-gather P (suc n) lists each = All-append P (gather n lists) (lists n) (All-gather P n lists (λ k lt. each k (omega arith))) (each n (omega arith))

  module _ (R : X → X → Type 0) where
    pub AllPairs-append : (A B : List X) → AllPairs R A → AllPairs R B → All (λ x. All (R x) B) A → AllPairs R (A ++ B)
    AllPairs-append [] B a b across = b
    AllPairs-append (x ∷ A) B a b across =
        AllPairs-cons R x (A ++ B) (All-append (R x) A B (AllPairs-head R x A a) (All-head (λ y. All (R y) B) x A across))
        (AllPairs-append A B (AllPairs-tail R x A a) b (All-tail (λ y. All (R y) B) x A across))

    pub AllPairs-front : (A B : List X) → AllPairs R (A ++ B) → AllPairs R A
    AllPairs-front [] B h = AllPairs-nil R
    AllPairs-front (x ∷ A) B h = AllPairs-cons R x A (All-front (R x) A B (AllPairs-head R x (A ++ B) h)) (AllPairs-front A B (AllPairs-tail R x (A ++ B) h))

    pub AllPairs-across : (A B : List X) → AllPairs R (A ++ B) → All (λ x. All (R x) B) A
    AllPairs-across [] B h = All-nil (λ x. All (R x) B)
    AllPairs-across (x ∷ A) B h =
        All-cons (λ y. All (R y) B) x A (All-back (R x) A B (AllPairs-head R x (A ++ B) h)) (AllPairs-across A B (AllPairs-tail R x (A ++ B) h))

less_is : (o : Ordering) → is_lt o ≡ true → o ≡ Less
less_is Less e = refl
less_is Equal e = absurd (true≢false (sym e))
less_is Greater e = absurd (true≢false (sym e))

not_less : (o : Ordering) → ¬ (o ≡ Less) → is_lt o ≡ false
not_less Less h = absurd (h refl)
not_less Equal h = refl
not_less Greater h = refl

module _ (keys : List KeySpec) where
  -- 1 for a row before x
  abbrev ahead : List Value → List Value → ℕ
  ahead x z = if is_lt (row_cmp keys z x) then 1 else 0

  -- 1 for any other row
  abbrev not_ahead : List Value → List Value → ℕ
  not_ahead x z = if is_lt (row_cmp keys z x) then 0 else 1

  -- s is not before r
  abbrev Follows : List Value → List Value → Type 0
  Follows r s = ¬ IsBefore keys s r

  either_one : (b : Bool) → (if b then 1 else 0) + (if b then 0 else 1) ≡ 1
  either_one true = refl
  either_one false = refl

  all_counted : (x : List Value) (A : List (List Value)) → sum_by (ahead x) A + sum_by (not_ahead x) A ≡ length A
  all_counted x A =
      sym (weight-sum (ahead x) (not_ahead x) A) ∙ weight-agree (λ z. ahead x z + not_ahead x z) (λ z. 1) (λ z. either_one (is_lt (row_cmp keys z x))) A ∙ sym (length_by_weights A)

  none_ahead : (x : List Value) (A : List (List Value)) → All (Follows x) A → sum_by (ahead x) A ≡ 0
  none_ahead x [] h = refl
  none_ahead x (z ∷ A) h =
      let here : ahead x z ≡ 0 = ap {B = ℕ} (λ b. if b then 1 else 0) (not_less (row_cmp keys z x) (All-head (Follows x) z A h)) in
      omega (arith, here, none_ahead x A (All-tail (Follows x) z A h), sum_by-cons (ahead x) z A)

  not_itself : (x : List Value) → not_ahead x x ≡ 1
  not_itself x = ap {B = ℕ} (λ b. if b then 0 else 1) (not_less (row_cmp keys x x) (λ e. not_both (row_cmp_total keys) x x e e))

  -- in a sorted list fewer rows than stand before x's end are before x
  few_ahead : (A B : List (List Value)) → IsOrdered keys (A ++ B) → (i : ℕ) (d : List Value) → i < length A → sum_by (ahead (get_or A i d)) (A ++ B) < length A
  few_ahead A B h i d lt =
      let x = get_or A i d in
      omega (arith, sum_by-append (ahead x) A B, none_ahead x B (AllPairs-across Follows A B h i d lt), all_counted x A, get_or-le-sum_by (not_ahead x) A i d lt, not_itself x)

  before_at : (r x t : List Value) → IsBefore keys r x → Follows t r → (b : Bool) → is_lt (row_cmp keys t x) ≡ b → ahead x t ≡ 1
  before_at r x t rx tr true e = ap {B = ℕ} (λ b. if b then 1 else 0) e
  before_at r x t rx tr false e = absurd (not_before (row_cmp_total keys) r t x tr (λ tx. true≢false (sym (ap is_lt tx) ∙ e)) rx)

  -- where r is before x, so is each row that r follows
  many_ahead : (r x : List Value) → IsBefore keys r x → (A : List (List Value)) → All (λ t. Follows t r) A → sum_by (ahead x) A ≡ length A
  many_ahead r x rx [] h = refl
  many_ahead r x rx (t ∷ A) h =
      omega (
        arith,
        before_at r x t rx (All-head (λ s. Follows s r) t A h) (is_lt (row_cmp keys t x)) refl,
        many_ahead r x rx A (All-tail (λ s. Follows s r) t A h),
        sum_by-cons (ahead x) t A,
      )

  -- one sorted piece: what is cut off of it follows the first rows of all
  left_behind : (c : ℕ) (Z : List (List Value)) → IsOrdered keys Z → (S : List (List Value)) → IsOrdered keys S
      → ((x : List Value) → sum_by (ahead x) (take c S) ≤ sum_by (ahead x) Z) → All (λ x. All (Follows x) (drop c S)) (take c Z)
  left_behind c Z z S s within i d lt j e less rx =
      let x = get_or (take c Z) i d in
      let r = get_or (drop c S) j e in
      let cut_s : IsOrdered keys (take c S ++ drop c S) = subst (IsOrdered keys) (sym (take-append-drop c S)) s in
      let cut_z : IsOrdered keys (take c Z ++ drop c Z) = subst (IsOrdered keys) (sym (take-append-drop c Z)) z in
      let all : All (λ t. Follows t r) (take c S) = λ k f below. AllPairs-across Follows (take c S) (drop c S) cut_s k f below j e less in
      let many : sum_by (ahead x) (take c S) ≡ length (take c S) = many_ahead r x rx (take c S) all in
      let few : sum_by (ahead x) (take c Z ++ drop c Z) < length (take c Z) = few_ahead (take c Z) (drop c Z) cut_z i d lt in
      let whole : sum_by (ahead x) (take c Z ++ drop c Z) ≡ sum_by (ahead x) Z = ap (sum_by (ahead x)) (take-append-drop c Z) in
      omega (arith, many, few, whole, within x, length-take c S, length-take c Z, length-drop c S, less)

  module _ (c n : ℕ) (sorts : ℕ → List (List Value)) (each : (k : ℕ) → k < n → IsOrdered keys (sorts k))
      (Z : List (List Value)) (ordered : IsOrdered keys Z) (same : SameWeights (gather n (λ k. take c (sorts k))) Z) where
    -- what is not among the first rows
    abbrev rest : List (List Value)
    rest = drop c Z ++ gather n (λ k. drop c (sorts k))

    cut_ordered : IsOrdered keys (take c Z ++ drop c Z)
    cut_ordered = subst (IsOrdered keys) (sym (take-append-drop c Z)) ordered

    rest_behind : All (λ x. All (Follows x) rest) (take c Z)
    rest_behind i d lt =
        let x = get_or (take c Z) i d in
        All-append (Follows x) (drop c Z) (gather n (λ k. drop c (sorts k))) (AllPairs-across Follows (take c Z) (drop c Z) cut_ordered i d lt)
        (All-gather (Follows x) n (λ k. drop c (sorts k))
        (λ k below. left_behind c Z ordered (sorts k) (each k below)
        (λ y. omega (arith, weight-gather-le (ahead y) n (λ j. take c (sorts j)) k below, same.weighs (ahead y))) i d lt))

    sorted_behind : All (λ x. All (Follows x) (sorted_rows keys rest)) (take c Z)
    sorted_behind i d lt = All-permutation (Follows (get_or (take c Z) i d)) rest (sorted_rows keys rest) (is_sort keys rest).same (rest_behind i d lt)

    nothing_left : length (take c Z) < c → sorted_rows keys rest ≡ []
    nothing_left short =
        let few : length Z < c = omega (arith, length-take c Z, short) in
        ap (sorted_rows keys) (λ i. drop_all c Z (omega (arith, few)) i ++ rests-none c n sorts (omega (arith, same-length same, few)) i)
        ∙ same-nil (same-sym (same_from_bag [] (sorted_rows keys []) (is_sort keys []).same))

    sort_twice : IsTopOf keys c (gather n sorts) (take c Z)
    sort_twice =
        let later = sorted_rows keys rest in
        let cut_all : SameWeights (gather n sorts) ((take c Z ++ drop c Z) ++ gather n (λ k. drop c (sorts k)))
        = same-trans (same-cut_parts c n sorts) (same-append (same-trans same (same-from_equal (sym (take-append-drop c Z)))) (same-refl (gather n (λ k. drop c (sorts k))))) in
        let whole : SameWeights (gather n sorts) (take c Z ++ later)
        = same-trans cut_all
        (same-trans (same-from_equal (append_assoc (take c Z) (drop c Z) (gather n (λ k. drop c (sorts k)))))
        (same-append (same-refl (take c Z)) (same_from_bag rest later (is_sort keys rest).same))) in
        record {
          order = take c Z ++ later;
          sorted = record {
            same = bag_from_same (gather n sorts) (take c Z ++ later) whole;
            ordered = AllPairs-append Follows (take c Z) later (AllPairs-front Follows (take c Z) (drop c Z) cut_ordered) (is_sort keys rest).ordered sorted_behind;
          };
          is = sym (take-append_enough c (take c Z) later nothing_left ∙ take-take c c Z (omega arith));
        }

  pub sort-of_same : {A B sorted : List (List Value)} → SameWeights A B → IsSortOf keys A sorted → IsSortOf keys B sorted
  sort-of_same {A} {B} {sorted} s o = record { same = bag_from_same B sorted (same-trans (same-sym s) (same_from_bag A sorted o.same)); ordered = o.ordered }

  pub top-of_same : (c : ℕ) {A B top : List (List Value)} → SameWeights A B → IsTopOf keys c A top → IsTopOf keys c B top
  top-of_same c s t = record { order = t.order; sorted = sort-of_same s t.sorted; is = t.is }

  -- top rows are first rows of some order
  pub top-is_first : (c : ℕ) (A top : List (List Value)) → IsTopOf keys c A top → IsFirstOf c A top
  top-is_first c A top t = record { order = t.order; same = same_from_bag A t.order t.sorted.same; is = t.is }

  -- from each piece its top rows, of these the top ones
  pub top-of_tops : (c n : ℕ) (pieces tops : ℕ → List (List Value)) → ((k : ℕ) → k < n → IsTopOf keys c (pieces k) (tops k))
      → (top : List (List Value)) → IsTopOf keys c (gather n tops) top → IsTopOf keys c (gather n pieces) top
  top-of_tops c n pieces tops each top t =
      let orders = chosen (λ k order. IsSortOf keys (pieces k) order × (tops k ≡ take c order)) [] n (λ k lt. ((each k lt).order, ((each k lt).sorted, (each k lt).is))) in
      let all : SameWeights (gather n (λ k. take c (orders.0 k))) t.order
      = same-trans (same-from_equal (gather-agree n (λ k. take c (orders.0 k)) tops (λ k lt. sym ((orders.1 k lt).1)))) (same_from_bag (gather n tops) t.order t.sorted.same) in
      let whole = sort_twice c n orders.0 (λ k lt. ((orders.1 k lt).0).ordered) t.order t.sorted.ordered all in
      let bag : SameWeights (gather n pieces) whole.order
      = same-trans (same-gather n pieces orders.0 (λ k lt. same_from_bag (pieces k) (orders.0 k) ((orders.1 k lt).0).same))
      (same_from_bag (gather n orders.0) whole.order whole.sorted.same) in
      record {
        order = whole.order;
        sorted = record { same = bag_from_same (gather n pieces) whole.order bag; ordered = whole.sorted.ordered };
        is = t.is ∙ whole.is;
      }
