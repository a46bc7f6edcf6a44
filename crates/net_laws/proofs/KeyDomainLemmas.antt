-- The domain of keys passes what passes them.
use Rattle.std.proofs.Common.{◌≡◌, List, Bool, true, false, ◌||◌, ◌&&◌, refl, sym, ◌∙◌, arith, ◌⊎◌, inl, inr}
use Rattle.std.specs.List.{list_any}
use Rattle.std.specs.Ordering.{is_le}
use Rattle.std.specs.Set.{distinct_count}
use Rattle.std.proofs.lemmas.Bool.{and_from, and_parts, lt-ltb, ltb-true, or_cases, true≢false}
use Rattle.sql_values.specs.declared.value.Value.{Value}
use Rattle.sql_values.specs.Order.{value_cmp}
use Rattle.relation_laws.specs.Equality.{is_present, same_value}
use Rattle.dyn_filter.specs.declared.domain.Domain.{Domain}
use Rattle.dyn_filter.specs.declared.domain.Domain.TheVariants.{Nothing, Values, Range}
use Rattle.dyn_filter.specs.Lists.{is_in, most_values}
use Rattle.dyn_filter.specs.Domains.{AreEndsOf, AreMany, IsDomainOf, is_among, is_between, is_held, passes}
use Rattle.dyn_filter.proofs.ListLemmas.{le_trans}
use Rattle.dyn_filter.proofs.DomainLemmas.{there_passes}
use Rattle.net_laws.specs.Keys.{are_many, is_spanned, passes_keys, present_keys}
use Rattle.net_laws.proofs.MemberLemmas.{ascending_differ, bools_agree, differing_all, differing_few, in_present, member_passes, some_member}

or_first : (a b : Bool) → a ≡ true → (a || b) ≡ true
or_first true b e = refl
or_first false b e = cc

or_second : (a b : Bool) → b ≡ true → (a || b) ≡ true
or_second true b e = refl
or_second false b e = e

-- a key that is not NULL
some_key : (p : Value → Bool) (keys : List Value) → list_any p (present_keys keys) ≡ true → (x : Value) × (is_among keys x ≡ true) × (p x ≡ true)
some_key p keys e = let at = some_member p (present_keys keys) e in (at.0, sym (in_present keys at.0) ∙ at.1, at.2)

key_passes : (p : Value → Bool) (keys : List Value) (x : Value) → is_among keys x ≡ true → p x ≡ true → list_any p (present_keys keys) ≡ true
key_passes p keys x there e = member_passes p (present_keys keys) x (in_present keys x ∙ there) e

-- more of them than are kept one by one
many_keys : (keys : List Value) → AreMany keys → are_many keys ≡ true
many_keys keys many =
    let few = differing_few many.some (present_keys keys) (ascending_differ many.some many.ascending) (λ v e. in_present keys v ∙ many.among v e) in
    lt-ltb most_values (distinct_count same_value (present_keys keys)) (omega (arith, many.many, few))

-- from the least to the greatest
between_first : (least greatest v : Value) → is_between least greatest v ≡ true → is_le (value_cmp least v) ≡ true
between_first least greatest v e = (and_parts (is_le (value_cmp least v)) (is_le (value_cmp v greatest)) e).0

between_last : (least greatest v : Value) → is_between least greatest v ≡ true → is_le (value_cmp v greatest) ≡ true
between_last least greatest v e = (and_parts (is_le (value_cmp least v)) (is_le (value_cmp v greatest)) e).1

spanned_by : (keys : List Value) (least greatest v : Value) → AreEndsOf keys least greatest → is_between least greatest v ≡ true → is_spanned keys v ≡ true
spanned_by keys least greatest v ends e =
    and_from (list_any (λ key. is_le (value_cmp key v)) (present_keys keys)) (list_any (λ key. is_le (value_cmp v key)) (present_keys keys))
    (key_passes (λ key. is_le (value_cmp key v)) keys least ends.low (between_first least greatest v e))
    (key_passes (λ key. is_le (value_cmp v key)) keys greatest ends.high (between_last least greatest v e))

spans_between : (keys : List Value) (least greatest v : Value) → AreEndsOf keys least greatest → is_spanned keys v ≡ true → is_between least greatest v ≡ true
spans_between keys least greatest v ends e =
    let both = and_parts (list_any (λ key. is_le (value_cmp key v)) (present_keys keys)) (list_any (λ key. is_le (value_cmp v key)) (present_keys keys)) e in
    let low = some_key (λ key. is_le (value_cmp key v)) keys both.0 in
    let high = some_key (λ key. is_le (value_cmp v key)) keys both.1 in
    and_from (is_le (value_cmp least v)) (is_le (value_cmp v greatest))
    (le_trans least low.0 v (between_first least greatest low.0 (ends.within low.0 low.1)) low.2)
    (le_trans v high.0 greatest high.2 (between_last least greatest high.0 (ends.within high.0 high.1)))

-- what a domain holds
held_there : (domain : Domain) (keys : List Value) (v : Value) → IsDomainOf keys domain → is_present v ≡ true → is_held domain v ≡ true
    → (is_in keys v || (are_many keys && is_spanned keys v)) ≡ true
held_there Nothing keys v is present e = absurd (true≢false (sym e))
held_there (Values list) keys v is present e =
    or_first (is_in keys v) (are_many keys && is_spanned keys v) ((and_parts (is_present v) (is_in keys v) (sym (is.same v) ∙ e)).1)
held_there (Range least greatest) keys v is present e =
    or_second (is_in keys v) (are_many keys && is_spanned keys v)
    (and_from (are_many keys) (is_spanned keys v) (many_keys keys is.1) (spanned_by keys least greatest v is.0 e))

-- and where the keys are too many, what they span
spanned_held : (domain : Domain) (keys : List Value) (v : Value) → IsDomainOf keys domain → are_many keys ≡ true → is_spanned keys v ≡ true → is_held domain v ≡ true
spanned_held Nothing keys v is many e =
    let both = and_parts (list_any (λ key. is_le (value_cmp key v)) (present_keys keys)) (list_any (λ key. is_le (value_cmp v key)) (present_keys keys)) e in
    let some = some_key (λ key. is_le (value_cmp key v)) keys both.0 in
    absurd (true≢false (sym some.1 ∙ is some.0))
spanned_held (Values list) keys v is many e =
    let count = differing_all list (present_keys keys) (ascending_differ list is.is.ascending) (λ w. is.same w ∙ sym (in_present keys w)) in
    absurd (omega (arith, is.is.few, count, ltb-true most_values (distinct_count same_value (present_keys keys)) many))
spanned_held (Range least greatest) keys v is many e = spans_between keys least greatest v is.0 e

there_held : (domain : Domain) (keys : List Value) (v : Value) → IsDomainOf keys domain → is_present v ≡ true
    → (is_in keys v ≡ true) ⊎ ((are_many keys && is_spanned keys v) ≡ true) → is_held domain v ≡ true
there_held domain keys v is present (inl there) =
    (and_parts (is_present v) (is_held domain v) (there_passes domain keys v is (and_from (is_present v) (is_in keys v) present there))).1
there_held domain keys v is present (inr e) =
    let both = and_parts (are_many keys) (is_spanned keys v) e in
    spanned_held domain keys v is both.0 both.1

-- the domain of keys passes exactly what passes them
pub passes_as_keys : (domain : Domain) (keys : List Value) (v : Value) → IsDomainOf keys domain → passes domain v ≡ passes_keys keys v
passes_as_keys domain keys v is = bools_agree (passes domain v) (passes_keys keys v) there back
  where
    rule : Bool
    rule = is_in keys v || (are_many keys && is_spanned keys v)

    there : passes domain v ≡ true → passes_keys keys v ≡ true
    there e =
        let both = and_parts (is_present v) (is_held domain v) e in
        and_from (is_present v) rule both.0 (held_there domain keys v is both.0 both.1)

    back : passes_keys keys v ≡ true → passes domain v ≡ true
    back e =
        let both = and_parts (is_present v) rule e in
        and_from (is_present v) (is_held domain v) both.0 (there_held domain keys v is both.0 (or_cases (is_in keys v) (are_many keys && is_spanned keys v) both.1))
