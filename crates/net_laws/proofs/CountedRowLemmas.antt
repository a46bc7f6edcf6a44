-- How many rows pass filters, as one more filter is put in front.
use Rattle.std.proofs.Common.{◌≡◌, ℕ, ◌≤◌, List, [], ◌∷◌, length, Bool, true, false, ◌&&◌, refl, ap, sym, ◌∙◌, subst, arith, inl, inr}
use Rattle.std.specs.Prelude.{cond, count_by, filter}
use Rattle.std.specs.List.{list_all}
use Rattle.std.proofs.lemmas.List.Sums.{sum_by-cons}
use Rattle.operator_core.specs.Rows.{Row}
use Rattle.bag_laws.proofs.BagLemmas.{length_by_weights, weight-agree, weight-filter}
use Rattle.dyn_filter.specs.Filters.{AreKept}
use Rattle.net_laws.specs.ScanFilters.{IsCountOf, ScanFilter, count_passing, passes_filter, waited_for}

-- the first test, and the second one
abbrev both : (Row → Bool) → (Row → Bool) → Row → Bool
both p q row = p row && q row

abbrev one_if : Bool → ℕ
one_if b = cond b 1 0

one_of_both : (a b : Bool) → one_if (a && b) ≤ one_if b
one_of_both true b = omega arith
one_of_both false true = omega arith
one_of_both false false = omega arith

none_of_both : (a b : Bool) → a ≡ false → one_if (a && b) ≡ 0
none_of_both a b e = ap (λ c. one_if (c && b)) e

cond_of_both : (a b : Bool) → cond a (one_if b) 0 ≡ one_if (a && b)
cond_of_both true b = refl
cond_of_both false b = refl

-- what was kept of rows, but for some that fail a test
pub kept_count : (p q : Row → Bool) (kept X : List Row) → AreKept p kept X → (count_by q kept ≤ count_by q X) × (count_by (both p q) X ≤ count_by q kept)
kept_count p q kept [] are =
    subst (λ (rows : List Row). (count_by q rows ≤ count_by q []) × (count_by (both p q) [] ≤ count_by q rows)) (sym are) (omega arith, omega arith)
kept_count p q kept (row ∷ rows) (inl (fails, rest)) =
    let h = kept_count p q kept rows rest in (
      omega (arith, h.0, sum_by-cons (λ (x : Row). one_if (q x)) row rows),
      omega (arith, h.1, sum_by-cons (λ (x : Row). one_if (both p q x)) row rows, none_of_both (p row) (q row) fails),
    )
kept_count p q kept (row ∷ rows) (inr (some, is, rest)) =
    let h = kept_count p q some rows rest in
    let here = sum_by-cons (λ (x : Row). one_if (q x)) row some in
    let all = sum_by-cons (λ (x : Row). one_if (q x)) row rows in
    let pass = sum_by-cons (λ (x : Row). one_if (both p q x)) row rows in
    subst (λ (items : List Row). (count_by q items ≤ count_by q (row ∷ rows)) × (count_by (both p q) (row ∷ rows) ≤ count_by q items)) (sym is)
    (omega (arith, h.0, here, all), omega (arith, h.1, here, pass, one_of_both (p row) (q row)))

pub filter_count : (p q : Row → Bool) (X : List Row) → count_by q (filter p X) ≡ count_by (both p q) X
filter_count p q X =
    weight-filter (λ (x : Row). one_if (q x)) p X
    ∙ weight-agree (λ (x : Row). cond (p x) (one_if (q x)) 0) (λ (x : Row). one_if (both p q x)) (λ x. cond_of_both (p x) (q x)) X

-- without filters all rows pass
pub all_pass : (X : List Row) → count_passing [] X ≡ length X
all_pass X = sym (length_by_weights X)

-- one more filter in front
module _ (f : ScanFilter) (filters : List ScanFilter) (X M : List Row) (n : ℕ) where
  abbrev pass : Row → Bool
  pass row = passes_filter row f

  abbrev rest : Row → Bool
  rest row = list_all (passes_filter row) filters

  abbrev waited : Row → Bool
  waited row = list_all (passes_filter row) (waited_for filters)

  pub one_more : AreKept pass M X → (f.waits ≡ true → M ≡ filter pass X) → IsCountOf filters M n → IsCountOf (f ∷ filters) X n
  one_more kept exact counts = record { most = go f.waits refl; least = omega (arith, (kept_count pass rest M X kept).1, counts.least) }
    where
      go : (b : Bool) → f.waits ≡ b → n ≤ count_passing (cond b (f ∷ waited_for filters) (waited_for filters)) X
      go true w = omega (arith, counts.most, ap (count_by waited) (exact w), filter_count pass waited X)
      go false w = omega (arith, counts.most, (kept_count pass waited M X kept).0)
