-- Lists of values: which values they have, and how many different ones.
use Rattle.std.proofs.Common.{◌≡◌, ◌≤◌, List, [], ◌∷◌, length, get_or, Bool, true, false, ◌||◌, ◌&&◌, refl, ap, sym, ◌∙◌, subst}
use Rattle.std.specs.Prelude.{cond}
use Rattle.std.specs.Cmp.{IsEquivalence}
use Rattle.std.specs.List.{AllByRecursion, IsDistinct, list_any}
use Rattle.std.specs.Ordering.{is_eq}
use Rattle.std.specs.Set.{distinct_count, unique_keys}
use Rattle.std.specs.declared.cmp.Ordering.TheVariants.{Less}
use Rattle.std.proofs.lemmas.Cmp.{eq_by_cmp_equiv}
use Rattle.std.proofs.lemmas.List.Folds.{Any-from_list_any, list_any_at}
use Rattle.std.proofs.lemmas.Map.Made.{is_member-filter, length-from_keys, length-le_from_is_member}
use Rattle.sql_values.specs.declared.value.Value.{Value}
use Rattle.sql_values.specs.Order.{value_cmp}
use Rattle.sql_values.proofs.OrderLemmas.{value_cmp_total}
use Rattle.relation_laws.specs.Equality.{is_present, same_value}
use Rattle.dyn_filter.specs.Lists.{AreAscending, is_in}
use Rattle.dyn_filter.specs.Domains.{is_among}
use Rattle.dyn_filter.proofs.ListLemmas.{is_same, same_itself}
use Rattle.net_laws.specs.Keys.{present_keys}

pub same_laws : IsEquivalence same_value
same_laws = eq_by_cmp_equiv value_cmp_total

and_turned : (a b : Bool) → (a && b) ≡ (b && a)
and_turned true true = refl
and_turned true false = refl
and_turned false true = refl
and_turned false false = refl

pub bools_agree : (a b : Bool) → (a ≡ true → b ≡ true) → (b ≡ true → a ≡ true) → a ≡ b
bools_agree true b there back = sym (there refl)
bools_agree false true there back = back refl
bools_agree false false there back = refl

-- the keys that are not NULL have the values that are not NULL
pub in_present : (keys : List Value) (v : Value) → is_in (present_keys keys) v ≡ is_among keys v
in_present keys v =
    is_member-filter same_laws is_present v (λ x e. ap is_present (is_same v x e)) keys ∙ and_turned (is_in keys v) (is_present v)

-- some item passes a test: the list has a value that does
pub some_member : (p : Value → Bool) (xs : List Value) → list_any p xs ≡ true → (x : Value) × (is_in xs x ≡ true) × (p x ≡ true)
some_member p xs e =
    let at = Any-from_list_any p xs e in
    let itself : same_value at.1 (get_or xs at.0 at.1) ≡ true = subst (λ (x : Value). same_value at.1 x ≡ true) (sym at.3) (same_itself at.1) in
    (at.1, list_any_at (same_value at.1) xs at.0 at.1 at.2 itself, at.4)

pub member_passes : (p : Value → Bool) (xs : List Value) (x : Value) → is_in xs x ≡ true → p x ≡ true → list_any p xs ≡ true
member_passes p xs x there passes =
    let at = Any-from_list_any (same_value x) xs there in
    list_any_at p xs at.0 at.1 at.2 (ap p (at.3 ∙ sym (is_same x at.1 at.4)) ∙ passes)

-- of a list in which each value is kept once: it has the same values
kept_same : (xs : List Value) (x v : Value) (b : Bool) → same_value v x ≡ b → is_in xs x ≡ true → is_in xs v ≡ (b || is_in xs v)
kept_same xs x v true same there = ap (is_in xs) (is_same v x same) ∙ there
kept_same xs x v false same there = refl

kept_once : (xs : List Value) (x v : Value) (b : Bool) → is_in xs x ≡ b → is_in (unique_keys same_value xs) v ≡ is_in xs v
    → is_in (cond b (unique_keys same_value xs) (x ∷ unique_keys same_value xs)) v ≡ (same_value v x || is_in xs v)
kept_once xs x v true there rest = rest ∙ kept_same xs x v (same_value v x) refl there
kept_once xs x v false there rest = ap (λ b. same_value v x || b) rest

pub unique_member : (xs : List Value) (v : Value) → is_in (unique_keys same_value xs) v ≡ is_in xs v
unique_member [] v = refl
unique_member (x ∷ xs) v = kept_once xs x v (is_in xs x) refl (unique_member xs v)

or_none : (a b : Bool) → (a || b) ≡ false → (a ≡ false) × (b ≡ false)
or_none true b e = cc
or_none false b e = (refl, e)

none_same : (v : Value) (xs : List Value) → is_in xs v ≡ false → AllByRecursion (λ w. same_value v w ≡ false) xs
none_same v [] none = tt
none_same v (x ∷ xs) none = let both = or_none (same_value v x) (is_in xs v) none in (both.0, none_same v xs both.1)

-- and they are all different
pub unique_differ : (xs : List Value) → IsDistinct same_value (unique_keys same_value xs)
unfolding IsDistinct
unique_differ [] = tt
unique_differ (x ∷ xs) = go (is_in xs x) refl (unique_differ xs)
  where
    go : (b : Bool) → is_in xs x ≡ b → IsDistinct same_value (unique_keys same_value xs) → IsDistinct same_value (cond b (unique_keys same_value xs) (x ∷ unique_keys same_value xs))
    go true there rest = rest
    go false there rest = (none_same x (unique_keys same_value xs) (unique_member xs x ∙ there), rest)

all_differ : (v : Value) (vs : List Value) → AllByRecursion (λ w. value_cmp v w ≡ Less) vs → AllByRecursion (λ w. same_value v w ≡ false) vs
all_differ v [] all = all
all_differ v (w ∷ vs) all = (ap is_eq all.0, all_differ v vs all.1)

-- values in ascending order are all different
pub ascending_differ : (xs : List Value) → AreAscending xs → IsDistinct same_value xs
unfolding IsDistinct
ascending_differ [] up = tt
ascending_differ (x ∷ xs) up = (all_differ x xs up.0, ascending_differ xs up.1)

-- different values, all of them in a list, are no more than are different there
pub differing_few : (some xs : List Value) → IsDistinct same_value some → ((v : Value) → is_in some v ≡ true → is_in xs v ≡ true) → length some ≤ distinct_count same_value xs
differing_few some xs differ there =
    length-le_from_is_member same_laws some (unique_keys same_value xs) differ (λ v e. unique_member xs v ∙ there v e)

pub differing_all : (list xs : List Value) → IsDistinct same_value list → ((v : Value) → is_in list v ≡ is_in xs v) → length list ≡ distinct_count same_value xs
differing_all list xs differ same = length-from_keys same_laws list xs differ same
