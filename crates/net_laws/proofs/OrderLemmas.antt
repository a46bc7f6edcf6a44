-- What passes keys does not depend on their order; and counts where every filter is waited for.
use Rattle.std.proofs.Common.{◌≡◌, ℕ, List, [], ◌∷◌, Bool, true, false, ◌||◌, ◌&&◌, refl, ap, sym, ◌∙◌, arith}
use Rattle.std.specs.Prelude.{All, cond, count_by, filter, nat_le, nat_lt}
use Rattle.std.specs.List.{list_all, list_any}
use Rattle.std.specs.Ordering.{is_le}
use Rattle.std.specs.Set.{distinct_count, unique_keys}
use Rattle.std.proofs.lemmas.List.Elements.{All-head, All-tail}
use Rattle.sql_values.specs.declared.value.Value.{Value}
use Rattle.sql_values.specs.Cells.{cell}
use Rattle.sql_values.specs.Order.{value_cmp}
use Rattle.relation_laws.specs.Equality.{is_present, same_value}
use Rattle.relation_laws.proofs.BagLemmas.{by_permutation}
use Rattle.relation_laws.proofs.EqualityLemmas.{same_value_decides}
use Rattle.bag_laws.specs.Weights.{SameWeights}
use Rattle.bag_laws.proofs.BagLemmas.{permutation_from_same, same-filter}
use Rattle.dyn_filter.specs.Lists.{is_in, most_values}
use Rattle.net_laws.specs.Keys.{are_many, passes_keys, present_keys}
use Rattle.net_laws.specs.ScanFilters.{AreAlike, IsAlike, IsCountOf, ScanFilter, count_passing, passes_filter, up_to_id, waited_for}
use Rattle.net_laws.proofs.MemberLemmas.{differing_all, unique_differ, unique_member}

or_turned : (a b c : Bool) → (a || (b || c)) ≡ (b || (a || c))
or_turned true true c = refl
or_turned true false c = refl
or_turned false true c = refl
or_turned false false c = refl

-- whether some value passes a test
pub any_same : (p : Value → Bool) (xs ys : List Value) → SameWeights xs ys → list_any p xs ≡ list_any p ys
any_same p xs ys s =
    by_permutation same_value same_value_decides (list_any p) (λ x y zs. or_turned (p x) (p y) (list_any p zs)) (λ x zs ws e. ap (λ b. p x || b) e) xs ys
    (permutation_from_same same_value same_value_decides xs ys s)

-- how many are different
count_same : (xs ys : List Value) → SameWeights xs ys → distinct_count same_value xs ≡ distinct_count same_value ys
count_same xs ys s =
    differing_all (unique_keys same_value xs) ys (unique_differ xs) (λ v. unique_member xs v ∙ any_same (same_value v) xs ys s)

pub keys_in_any_order : (keys others : List Value) (v : Value) → SameWeights keys others → passes_keys keys v ≡ passes_keys others v
keys_in_any_order keys others v s =
    let present = same-filter is_present s in
    let there : is_in keys v ≡ is_in others v = any_same (same_value v) keys others s in
    let many : are_many keys ≡ are_many others = ap (λ (n : ℕ). nat_lt most_values n) (count_same (present_keys keys) (present_keys others) present) in
    let low = any_same (λ key. is_le (value_cmp key v)) (present_keys keys) (present_keys others) present in
    let high = any_same (λ key. is_le (value_cmp v key)) (present_keys keys) (present_keys others) present in
    λ i. is_present v && (there i || (many i && (low i && high i)))

-- filters that are alike but for the order of their keys
pub alike_filter : (test : ScanFilter → Bool) → ((f h : ScanFilter) → IsAlike f h → test h ≡ test f) → (filters others : List ScanFilter) → AreAlike filters others
    → AreAlike (filter test filters) (filter test others)
alike_filter test same [] [] alike = tt
alike_filter test same [] (h ∷ others) alike = absurd alike
alike_filter test same (f ∷ filters) [] alike = absurd alike
alike_filter test same (f ∷ filters) (h ∷ others) alike = go (test f) (test h) (same f h alike.0) (alike_filter test same filters others alike.1)
  where
    go : (b c : Bool) → c ≡ b → AreAlike (filter test filters) (filter test others)
        → AreAlike (cond b (f ∷ filter test filters) (filter test filters)) (cond c (h ∷ filter test others) (filter test others))
    go true true e rest = (alike.0, rest)
    go true false e rest = cc e
    go false true e rest = cc e
    go false false e rest = rest

pass_alike : (row : List Value) (f h : ScanFilter) → IsAlike f h → passes_filter row f ≡ passes_filter row h
pass_alike row f h a =
    keys_in_any_order f.keys h.keys (cell row f.column) a.keys ∙ ap (λ (column : ℕ). passes_keys h.keys (cell row column)) (sym a.column)

all_alike : (row : List Value) (filters others : List ScanFilter) → AreAlike filters others → list_all (passes_filter row) filters ≡ list_all (passes_filter row) others
all_alike row [] [] alike = refl
all_alike row [] (h ∷ others) alike = absurd alike
all_alike row (f ∷ filters) [] alike = absurd alike
all_alike row (f ∷ filters) (h ∷ others) alike = λ i. pass_alike row f h alike.0 i && all_alike row filters others alike.1 i

same_count : (filters others : List ScanFilter) (rows : List (List Value)) → AreAlike filters others → count_passing filters rows ≡ count_passing others rows
same_count filters others rows alike = λ i. count_by (λ row. all_alike row filters others alike i) rows

pub count_alike : (filters others : List ScanFilter) → AreAlike filters others → (rows : List (List Value)) (number : ℕ) → IsCountOf filters rows number → IsCountOf others rows number
count_alike filters others alike rows number count = record {
  most = omega (arith, count.most, same_count (waited_for filters) (waited_for others) rows (alike_filter (λ f. f.waits) (λ f h a. a.waits) filters others alike));
  least = omega (arith, count.least, same_count filters others rows alike);
}

pub alike_up_to : (id : ℕ) (filters others : List ScanFilter) → AreAlike filters others → AreAlike (up_to_id id filters) (up_to_id id others)
alike_up_to id filters others alike = alike_filter (λ f. nat_le f.id id) (λ f h a. ap (λ (n : ℕ). nat_le n id) a.id) filters others alike

all_waited : (filters : List ScanFilter) → All (λ f. f.waits ≡ true) filters → waited_for filters ≡ filters
all_waited [] all = refl
all_waited (f ∷ filters) all =
    ap (λ b. cond b (f ∷ waited_for filters) (waited_for filters)) (All-head (λ (h : ScanFilter). h.waits ≡ true) f filters all)
    ∙ ap (λ (rest : List ScanFilter). f ∷ rest) (all_waited filters (All-tail (λ (h : ScanFilter). h.waits ≡ true) f filters all))

pub count_exact : (filters : List ScanFilter) (rows : List (List Value)) (number : ℕ) → All (λ f. f.waits ≡ true) filters → IsCountOf filters rows number
    → number ≡ count_passing filters rows
count_exact filters rows number all count =
    omega (arith, count.least, count.most, ap (λ (some : List ScanFilter). count_passing some rows) (all_waited filters all))
