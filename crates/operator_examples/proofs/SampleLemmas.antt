-- Rows of which none, or one, has a NULL in a column.
use Rattle.std.proofs.Common.{◌≡◌, ◌<◌, ◌+◌, ℕ, List, [], ◌∷◌, ◌++◌, length, take, refl, ap, sym, append_assoc, ◌∙◌, arith, add-one, zero, suc, Bool, true, false}
use Rattle.std.specs.Prelude.{◌↔◌, ◌||◌, slice_index_or, if◌then◌else◌}
use Rattle.sql_values.specs.Cells.{cell}
use Rattle.operator_core.specs.Rows.{Row}
use Rattle.operator_examples.specs.Samples.{is_null, before_null, has_null}

-- one more row without NULL
one_more-suc : (c : ℕ) (rows : List Row) (n : ℕ) → n < length rows → is_null (cell (slice_index_or rows n []) c) ≡ false
    → has_null c (take n rows) ≡ false → has_null c (take (suc n) rows) ≡ false
one_more-suc c [] n h full before = absurd (omega arith)
one_more-suc c (row ∷ rows) zero h full before = rw full refl
one_more-suc c (row ∷ rows) (suc n) h full before = elim (is_null (cell row c)) as (λ b. (b || has_null c (take n rows)) ≡ false → (b || has_null c (take (suc n) rows)) ≡ false) [ true ↦ λ e. e | false ↦ λ e. one_more-suc c rows n (omega arith) full e ] before

pub one_more : (c : ℕ) (rows : List Row) (n : ℕ) → n < length rows → is_null (cell (slice_index_or rows n []) c) ≡ false
    → has_null c (take n rows) ≡ false → has_null c (take (n + 1) rows) ≡ false
one_more c rows n h full before = rw add-one (one_more-suc c rows n h full before)

pub none_null : (c : ℕ) (rows : List Row) → has_null c rows ≡ false → before_null c rows ≡ rows
none_null c [] none = refl
none_null c (row ∷ rows) none = elim (is_null (cell row c)) as (λ b. (b || has_null c rows) ≡ false → (if b then [] else (row ∷ before_null c rows)) ≡ row ∷ rows)
    [ true ↦ λ e. cc | false ↦ λ e. ap (λ x. row ∷ x) (none_null c rows e) ] none

pub first_null_at : (c : ℕ) (rows : List Row) (n : ℕ) → n < length rows → is_null (cell (slice_index_or rows n []) c) ≡ true
    → has_null c (take n rows) ≡ false → (has_null c rows ≡ true) × (before_null c rows ≡ take n rows)
first_null_at c [] n h null before = absurd (omega arith)
first_null_at c (row ∷ rows) zero h null before = rw null (refl, refl)
first_null_at c (row ∷ rows) (suc n) h null before = elim (is_null (cell row c)) as (λ b. (b || has_null c (take n rows)) ≡ false
    → ((b || has_null c rows) ≡ true) × ((if b then [] else (row ∷ before_null c rows)) ≡ row ∷ take n rows))
    [ true ↦ λ e. cc | false ↦ λ e. (let t = first_null_at c rows n (omega arith) null e in (t.0, ap (λ x. row ∷ x) t.1)) ] before

pushed : (b : Bool) (row : Row) (P Q : List Row) → row ∷ (if b then P else Q) ≡ (if b then (row ∷ P) else (row ∷ Q))
pushed true row P Q = refl
pushed false row P Q = refl

pub before-append : (c : ℕ) (A X : List Row) → before_null c (A ++ X) ≡ (if has_null c A then before_null c A else (A ++ before_null c X))
before-append c [] X = refl
before-append c (row ∷ A) X = elim (is_null (cell row c)) as (λ b. (if b then [] else (row ∷ before_null c (A ++ X)))
    ≡ (if b || has_null c A then (if b then [] else (row ∷ before_null c A)) else ((row ∷ A) ++ before_null c X)))
    [ true ↦ refl | false ↦ ap (λ x. row ∷ x) (before-append c A X) ∙ pushed (has_null c A) row (before_null c A) (A ++ before_null c X) ]

pub has-append : (c : ℕ) (A X : List Row) → has_null c (A ++ X) ≡ has_null c A || has_null c X
has-append c [] X = refl
has-append c (row ∷ A) X = elim (is_null (cell row c)) as (λ b. (b || has_null c (A ++ X)) ≡ ((b || has_null c A) || has_null c X)) [ true ↦ refl | false ↦ has-append c A X ]

-- a page without NULL was taken in
pub took_all : (failed : Bool) (c : ℕ) (held new rows X B : List Row) → failed ≡ false → has_null c rows ≡ false → new ≡ held ++ rows
    → B ≡ (if failed then new else (new ++ before_null c X)) → B ≡ (if failed then held else (held ++ before_null c (rows ++ X)))
took_all true c held new rows X B f none n e = cc
took_all false c held new rows X B f none n e = rw (before-append, none) (e ∙ ap (λ x. x ++ before_null c X) n ∙ append_assoc held rows (before_null c X))

-- a page was taken in up to its first NULL
pub took_some : (failed : Bool) (c : ℕ) (held new rows first X B : List Row) → failed ≡ false → has_null c rows ≡ true
    → before_null c rows ≡ first → new ≡ held ++ first → B ≡ new → B ≡ (if failed then held else (held ++ before_null c (rows ++ X)))
took_some true c held new rows first X B f null e n b = cc
took_some false c held new rows first X B f null e n b = rw (before-append, null, e) (b ∙ n)

-- what may fail is the same where the test is
pub fails-same : {P Q : Type 0} (a b : Bool) → a ≡ b → (P × Q × (a ≡ true)) ↔ (P × Q × (b ≡ true))
fails-same a b e = ((λ h. (h.0, h.1, sym e ∙ h.2)), (λ h. (h.0, h.1, e ∙ h.2)))

pub null-later : (failed : Bool) (c : ℕ) (rows X : List Row) → has_null c rows ≡ false → (failed || has_null c X) ≡ (failed || has_null c (rows ++ X))
null-later failed c rows X none = rw (has-append, none) refl

pub null-here : (failed : Bool) (c : ℕ) (rows X : List Row) → has_null c rows ≡ true → (failed || has_null c (rows ++ X)) ≡ true
null-here true c rows X null = refl
null-here false c rows X null = rw (has-append, null) refl
