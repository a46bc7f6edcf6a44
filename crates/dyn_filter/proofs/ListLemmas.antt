-- Lists of values in ascending order.
use Rattle.std.proofs.Common.{◌≡◌, ℕ, zero, suc, ◌+◌, ◌-◌, ◌<◌, ◌≤◌, List, [], ◌∷◌, ◌++◌, length, get_or, Bool, true, false, ◌||◌, Result, Ok, Err, IfOk, IfErr, refl, ap, sym, ◌∙◌, subst, arith, inl, inr}
use Rattle.std.specs.declared.cmp.Ordering.{Ordering}
use Rattle.std.specs.declared.cmp.Ordering.TheVariants.{Less, Equal, Greater}
use Rattle.std.specs.List.{AllByRecursion, insert}
use Rattle.std.specs.List.Sorted.{IsBinarySearchResult, IsSearchInRange, IsSortedBy}
use Rattle.std.specs.Ordering.{is_eq, is_lt, is_gt, is_le, ordering_reverse}
use Rattle.std.specs.Prelude.{is_ok}
use Rattle.std.proofs.lemmas.Bool.{cases_lt}
use Rattle.std.proofs.lemmas.Cmp.{tied_itself, upto}
use Rattle.std.proofs.lemmas.List.{get_or_default}
use Rattle.std.proofs.lemmas.List.Elements.{recursion_from_All}
use Rattle.std.proofs.lemmas.List.Folds.{Any-from_list_any, list_any-append, list_any_at}
use Rattle.std.proofs.lemmas.List.Sorted.{ranks_by, searchable_from_sorted, sorted_far}
use Rattle.sql_values.specs.declared.value.Value.{Value}
use Rattle.sql_values.specs.declared.value.Value.TheVariants.{Null}
use Rattle.sql_values.specs.Order.{value_cmp}
use Rattle.sql_values.proofs.OrderLemmas.{value_cmp_total}
use Rattle.relation_laws.specs.Equality.{same_value}
use Rattle.relation_laws.proofs.EqualityLemmas.{same_value_decides}
use Rattle.dyn_filter.specs.Lists.{AreAscending, IsGapFor, is_in}
use Rattle.dyn_filter.specs.Spans.{first_of, last_of}

pub is_same : (v w : Value) → same_value v w ≡ true → v ≡ w
is_same v w e = (same_value_decides v w).0 e

pub same_itself : (v : Value) → same_value v v ≡ true
same_itself v = (same_value_decides v v).1 refl

turned_less : (o : Ordering) → ordering_reverse o ≡ Less → o ≡ Greater
turned_less Less e = cc
turned_less Equal e = cc
turned_less Greater e = refl

turned_greater : (o : Ordering) → ordering_reverse o ≡ Greater → o ≡ Less
turned_greater Less e = refl
turned_greater Equal e = cc
turned_greater Greater e = cc

-- what is less on one side is greater on the other
pub greater_turned : (v w : Value) → value_cmp v w ≡ Less → value_cmp w v ≡ Greater
greater_turned v w e = turned_less (value_cmp w v) (sym (value_cmp_total.antisymm v w) ∙ e)

pub less_turned : (v w : Value) → value_cmp v w ≡ Greater → value_cmp w v ≡ Less
less_turned v w e = turned_greater (value_cmp w v) (sym (value_cmp_total.antisymm v w) ∙ e)

not_gt : (o : Ordering) → is_le o ≡ true → is_gt o ≡ false
not_gt Less e = refl
not_gt Equal e = refl
not_gt Greater e = cc

le_not_gt : (o : Ordering) → is_gt o ≡ false → is_le o ≡ true
le_not_gt Less e = refl
le_not_gt Equal e = refl
le_not_gt Greater e = cc

not_lt_turned : (o : Ordering) → is_lt (ordering_reverse o) ≡ false → is_le o ≡ true
not_lt_turned Less e = refl
not_lt_turned Equal e = refl
not_lt_turned Greater e = cc

pub le_itself : (v : Value) → is_le (value_cmp v v) ≡ true
le_itself v = ap is_le (tied_itself value_cmp_total v)

pub le_trans : (u v w : Value) → is_le (value_cmp u v) ≡ true → is_le (value_cmp v w) ≡ true → is_le (value_cmp u w) ≡ true
le_trans u v w a b = le_not_gt (value_cmp u w) (upto value_cmp_total u v w (not_gt (value_cmp u v) a) (not_gt (value_cmp v w) b))

pub le_from_not_lt : (v w : Value) → is_lt (value_cmp w v) ≡ false → is_le (value_cmp v w) ≡ true
le_from_not_lt v w e = not_lt_turned (value_cmp v w) (ap is_lt (sym (value_cmp_total.antisymm w v)) ∙ e)

pub is_in-append : (xs ys : List Value) (v : Value) → is_in (xs ++ ys) v ≡ (is_in xs v || is_in ys v)
is_in-append xs ys v = list_any-append (same_value v) xs ys

swapped : (a b c : Bool) → (a || (b || c)) ≡ (b || (a || c))
swapped true true c = refl
swapped true false c = refl
swapped false true c = refl
swapped false false c = refl

pub is_in-insert : (xs : List Value) (place : ℕ) (y v : Value) → is_in (insert xs place y) v ≡ (same_value v y || is_in xs v)
is_in-insert xs zero y v = refl
is_in-insert [] (suc place) y v = refl
is_in-insert (x ∷ xs) (suc place) y v = ap (λ b. same_value v x || b) (is_in-insert xs place y v) ∙ swapped (same_value v x) (same_value v y) (is_in xs v)

all-insert : (P : Value → Type 0) (xs : List Value) (place : ℕ) (y : Value) → AllByRecursion P xs → P y → AllByRecursion P (insert xs place y)
all-insert P xs zero y all one = (one, all)
all-insert P [] (suc place) y all one = (one, tt)
all-insert P (x ∷ xs) (suc place) y all one = (all.0, all-insert P xs place y all.1 one)

gap-tail : (x : Value) (xs : List Value) (v : Value) (place : ℕ) → IsGapFor (x ∷ xs) v (suc place) → IsGapFor xs v place
gap-tail x xs v place gap = record {
  within = omega (arith, gap.within);
  lesser_before = λ k d lt. gap.lesser_before (suc k) d (omega arith);
  greater_behind = λ k d le lt. gap.greater_behind (suc k) d (omega arith) (omega arith);
}

-- a value in its gap keeps the order
pub ascending-insert : (xs : List Value) (v : Value) (place : ℕ) → AreAscending xs → IsGapFor xs v place → AreAscending (insert xs place v)
ascending-insert xs v zero up gap =
    (recursion_from_All (λ w. value_cmp v w ≡ Less) xs (λ k d lt. gap.greater_behind k d (omega arith) lt), up)
ascending-insert [] v (suc place) up gap = (tt, tt)
ascending-insert (x ∷ xs) v (suc place) up gap =
    (all-insert (λ w. value_cmp x w ≡ Less) xs place v up.0 (gap.lesser_before 0 Null (omega arith)), ascending-insert xs v place up.1 (gap-tail x xs v place gap))

neighbours : (xs : List Value) → AreAscending xs → (k : ℕ) (d : Value) → suc k < length xs → is_lt (value_cmp (get_or xs (suc k) d) (get_or xs k d)) ≡ false
neighbours [] up k d lt = absurd (omega arith)
neighbours (x ∷ []) up k d lt = absurd (omega arith)
neighbours (x ∷ y ∷ ys) up zero d lt = ap is_lt (greater_turned x y up.0.0)
neighbours (x ∷ y ∷ ys) up (suc k) d lt = neighbours (y ∷ ys) up.1 k d (omega arith)

pub sorted : (xs : List Value) → AreAscending xs → IsSortedBy (λ a b. is_lt (value_cmp a b)) xs
sorted xs up k d low high =
    let next : suc k ≡ k + 1 = omega arith in
    subst (λ (n : ℕ). is_lt (value_cmp (get_or xs n d) (get_or xs k d)) ≡ false) next (neighbours xs up k d (omega arith))

-- an earlier value is no greater than a later one
ordered : (xs : List Value) → AreAscending xs → (i j : ℕ) (d : Value) → i ≤ j → j < length xs → is_le (value_cmp (get_or xs i d) (get_or xs j d)) ≡ true
ordered xs up i j d le lt =
    le_from_not_lt (get_or xs i d) (get_or xs j d) (sorted_far (λ a b. is_lt (value_cmp a b)) (ranks_by value_cmp_total (λ v. v)) xs (sorted xs up) i j d le lt)

-- what a binary search finds
pub searched : (xs : List Value) (v : Value) (r : Result ℕ ℕ) → AreAscending xs → IsSearchInRange r (length xs) → IsBinarySearchResult (λ w. value_cmp w v) xs r
    → IfOk r (λ _. is_in xs v ≡ true) × IfErr r (IsGapFor xs v)
searched xs v (Ok place) up within found =
    let tied : value_cmp (get_or xs place Null) v ≡ Equal = found Null in
    let back : value_cmp v (get_or xs place Null) ≡ Equal = sym (value_cmp_total.congr (get_or xs place Null) v (get_or xs place Null) tied) ∙ tied_itself value_cmp_total (get_or xs place Null) in
    (list_any_at (same_value v) xs place Null within (ap is_eq back), tt)
searched xs v (Err place) up within parted =
    let point = parted (searchable_from_sorted value_cmp_total (λ w. w) xs v (sorted xs up)) in (
      tt,
      record {
        within = within;
        lesser_before = λ k d lt. point.0 k d (omega arith) lt;
        greater_behind = λ k d le lt. less_turned (get_or xs k d) v (point.1 k d le lt);
      },
    )

pub first_in : (xs : List Value) → 0 < length xs → is_in xs (first_of xs) ≡ true
first_in xs some = list_any_at (same_value (first_of xs)) xs 0 Null some (same_itself (first_of xs))

pub last_in : (xs : List Value) → 0 < length xs → is_in xs (last_of xs) ≡ true
last_in xs some = list_any_at (same_value (last_of xs)) xs (length xs - 1) Null (omega arith) (same_itself (last_of xs))

-- each value of a list lies from its first to its last
pub in_order : (xs : List Value) → AreAscending xs → (v : Value) → is_in xs v ≡ true
    → (is_le (value_cmp (first_of xs) v) ≡ true) × (is_le (value_cmp v (last_of xs)) ≡ true)
in_order xs up v e =
    let at = Any-from_list_any (same_value v) xs e in
    let k : ℕ = at.0 in
    let x : Value = at.1 in
    let lt : k < length xs = at.2 in
    let is : get_or xs k Null ≡ v = get_or_default xs k Null x lt ∙ at.3 ∙ sym (is_same v x at.4) in (
      subst (λ w. is_le (value_cmp (first_of xs) w) ≡ true) is (ordered xs up 0 k Null (omega arith) lt),
      subst (λ w. is_le (value_cmp w (last_of xs)) ≡ true) is (ordered xs up k (length xs - 1) Null (omega arith) (omega arith)),
    )

false_or_true : (b : Bool) → (b ≡ true → ⊥) → b ≡ false
false_or_true true h = absurd (h refl)
false_or_true false h = refl

not_less_itself : (v w : Value) → v ≡ w → value_cmp w v ≡ Less → ⊥
not_less_itself v w e less =
    let tied : value_cmp w v ≡ Equal = subst (λ (u : Value). value_cmp w u ≡ Equal) (sym e) (tied_itself value_cmp_total w) in
    cc (tied, less)

-- a value that has a gap is not in the list
pub not_in_gap : (xs : List Value) (v : Value) (place : ℕ) → IsGapFor xs v place → is_in xs v ≡ false
not_in_gap xs v place gap = false_or_true (is_in xs v) not_there
  where
    not_there : is_in xs v ≡ true → ⊥
    not_there e =
        let at = Any-from_list_any (same_value v) xs e in
        let k : ℕ = at.0 in
        let lt : k < length xs = at.2 in
        let is : v ≡ get_or xs k Null = sym (get_or_default xs k Null at.1 lt ∙ at.3 ∙ sym (is_same v at.1 at.4)) in
        elim (cases_lt k place) [
          | inl below ↦ not_less_itself v (get_or xs k Null) is (gap.lesser_before k Null below)
          | inr above ↦ not_less_itself (get_or xs k Null) v (sym is) (gap.greater_behind k Null above lt)
        ]

-- what a search found says whether the value is in the list
pub found_in : (xs : List Value) (v : Value) (r : Result ℕ ℕ) → IfOk r (λ _. is_in xs v ≡ true) → IfErr r (IsGapFor xs v) → is_ok r ≡ is_in xs v
found_in xs v (Ok place) found absent = sym found
found_in xs v (Err place) found absent = sym (not_in_gap xs v place absent)
