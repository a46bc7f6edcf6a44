-- Laws of `FilterOp`.
use Rattle.std.specs.Prelude.{◌≡◌, ◌↔◌, ℕ, List, [], ◌∷◌, ◌++◌, Bool, true, false, not, ◌&&◌, ◌||◌, Option, Some, None, filter, refl}
use Rattle.std.proofs.Common.{inl, inr, ap, sym, ◌∙◌, append_assoc, append-nil}
use Rattle.operator_core.specs.Rows.{Row, Coming}
use Rattle.operator_core.specs.Samples.{has_row}
use Rattle.operator_core.specs.SampleLaws.{has_row-none}
use Rattle.dyn_filter.specs.declared.domain.Domain.{Domain}
use Rattle.dyn_filter.specs.declared.domain.Domain.TheVariants.{Nothing}
use Rattle.dyn_filter.specs.Rows.{row_passes}
use Rattle.dyn_filter.specs.Filters.{AreKept, FilterGives, WentBy}

pub kept-all : (pass : Row → Bool) (X : List Row) → AreKept pass X X
kept-all pass [] = refl
kept-all pass (row ∷ rows) = inr (rows, refl, kept-all pass rows)

pub kept-append : (pass : Row → Bool) (A X B Y : List Row) → AreKept pass A X → AreKept pass B Y → AreKept pass (A ++ B) (X ++ Y)
kept-append pass A [] B Y a b = rw a b
kept-append pass A (row ∷ rows) B Y (inl lost) b = inl (lost.0, kept-append pass A rows B Y lost.1 b)
kept-append pass A (row ∷ rows) B Y (inr kept) b =
    inr (kept.0 ++ B, ap (λ (rest : List Row). rest ++ B) kept.1, kept-append pass kept.0 rows B Y kept.2 b)

-- the rows that pass
pub kept-filter : (pass : Row → Bool) (X : List Row) → AreKept pass (filter pass X) X
kept-filter pass [] = refl
kept-filter pass (row ∷ rows) = go (pass row) refl (kept-filter pass rows)
  where
    go : (b : Bool) → pass row ≡ b → AreKept pass (filter pass rows) rows → AreKept pass (filter pass (row ∷ rows)) (row ∷ rows)
    go true e rest = inr (filter pass rows, rw e refl, rest)
    go false e rest = inl (e, rw e rest)

pub filter-some : (waits : Bool) (column : ℕ) (known : Option Domain) (held X : List Row) → (B : List Row) × FilterGives waits column known held X B
filter-some waits column (Some domain) held X =
    (_, (domain, refl, filter (row_passes domain column) X, refl, kept-filter (row_passes domain column) X, λ w. refl))
filter-some waits column None held X =
    (_, (Nothing, tt, filter (row_passes Nothing column) X, refl, kept-filter (row_passes Nothing column) X, λ w. refl))

-- what is left where no row comes is what it holds
pub filter-rest : (waits : Bool) (column : ℕ) (known : Option Domain) (held B : List Row) → FilterGives waits column known held [] B → (has_row held ≡ false) ↔ (B ≡ [])
filter-rest waits column known held B g =
    let same : B ≡ held = g.3 ∙ ap (λ (rest : List Row). held ++ rest) g.4 ∙ append-nil held in
    let h = has_row-none held in
    ((λ f. same ∙ h.0 f), (λ f. h.1 (sym same ∙ f)))

pub filter-untold : (ready told holds : Bool) → (ready && not (told || holds)) ≡ true → told ≡ false
filter-untold false told holds e = cc
filter-untold true true holds e = cc
filter-untold true false holds e = refl

pub filter-needs : (knows waits told holds : Bool) → told ≡ false → holds ≡ false → (waits ≡ true → knows ≡ true) → ((knows || not waits) && not (told || holds)) ≡ true
filter-needs true waits told holds t h k = rw (t, h) refl
filter-needs false true told holds t h k = cc (k refl)
filter-needs false false told holds t h k = rw (t, h) refl

-- one that waits and does not know refuses input
pub filter-waits : (knows waits rest : Bool) → waits ≡ true → knows ≡ false → ((knows || not waits) && rest) ≡ false
filter-waits knows waits rest w k = rw (k, w) refl

first_none : (A B : List Row) → A ++ B ≡ [] → A ≡ []
first_none [] B e = refl
first_none (row ∷ rows) B e = cc

pub went-nothing : (waits : Bool) (held T G : List Row) → waits ≡ true → WentBy waits held T G → (T ≡ []) × (G ≡ [])
went-nothing waits held T G w went = (went.1 w, first_none G held (went.0 ∙ went.1 w))

over-none : (told : Bool) (held Z : List Row) → Coming told Z → (told && not (has_row held)) ≡ true → held ++ Z ≡ []
over-none true [] Z coming e = coming
over-none true (row ∷ rows) Z coming e = cc
over-none false held Z coming e = cc

-- the rows that passed, once no row comes any more
over-kept : (told : Bool) (pass : Row → Bool) (held Z : List Row) → Coming told Z → (told && not (has_row held)) ≡ true → held ++ filter pass Z ≡ []
over-kept true pass [] Z coming e = ap (filter pass) coming
over-kept true pass (row ∷ rows) Z coming e = cc
over-kept false pass held Z coming e = cc

-- while its note knows nothing it can go on, whatever domain that comes to know
pub filter-goes_on : (waits : Bool) (column : ℕ) (domain : Domain) (told : Bool) (held T G Z : List Row) → WentBy waits held T G → Coming told Z
    → (B : List Row) × FilterGives waits column (Some domain) [] (T ++ Z) (G ++ B) × ((told && not (has_row held)) ≡ true → B ≡ [])
filter-goes_on waits column domain told held T G Z went coming = (
  held ++ filter pass Z,
  (
    domain,
    refl,
    T ++ filter pass Z,
    sym (append_assoc G held (filter pass Z)) ∙ ap (λ (rest : List Row). rest ++ filter pass Z) went.0,
    kept-append pass T T (filter pass Z) Z (kept-all pass T) (kept-filter pass Z),
    λ w. waited (went.1 w),
  ),
  over-kept told pass held Z coming,
)
  where
    pass : Row → Bool
    pass = row_passes domain column

    waited : T ≡ [] → T ++ filter pass Z ≡ filter pass (T ++ Z)
    waited e = rw e refl
