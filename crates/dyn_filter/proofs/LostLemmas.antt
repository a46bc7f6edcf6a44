-- The rows that a filter loses.
use Rattle.std.proofs.Common.{◌≡◌, List, [], ◌∷◌, ◌++◌, Bool, false, refl, sym, subst, inl, inr}
use Rattle.std.specs.Prelude.{All}
use Rattle.std.specs.List.Sorted.{IsPermutation}
use Rattle.std.proofs.lemmas.List.Elements.{All-cons, All-nil}
use Rattle.std.proofs.lemmas.List.Sorted.{IsPermutation-cons, IsPermutation-middle, IsPermutation-refl, IsPermutation-sym, IsPermutation-trans}
use Rattle.operator_core.specs.Rows.{Row}
use Rattle.dyn_filter.specs.Filters.{AreKept}

-- what was kept and what was lost are all rows, and what was lost does not pass
pub lost_rows : (pass : Row → Bool) (kept X : List Row) → AreKept pass kept X
    → (lost : List Row) × IsPermutation X (kept ++ lost) × All (λ row. pass row ≡ false) lost
lost_rows pass kept [] are = ([], subst (λ (rows : List Row). IsPermutation [] (rows ++ [])) (sym are) (IsPermutation-refl []), All-nil (λ (row : Row). pass row ≡ false))
lost_rows pass kept (row ∷ rows) (inl (fails, are)) =
    let later = lost_rows pass kept rows are in (
      row ∷ later.0,
      IsPermutation-trans (row ∷ rows) (row ∷ (kept ++ later.0)) (kept ++ row ∷ later.0)
          (IsPermutation-cons row rows (kept ++ later.0) later.1)
          (IsPermutation-sym (kept ++ row ∷ later.0) (row ∷ (kept ++ later.0)) (IsPermutation-middle kept row later.0)),
      All-cons (λ (r : Row). pass r ≡ false) row later.0 fails later.2,
    )
lost_rows pass kept (row ∷ rows) (inr (rest, is, are)) =
    let later = lost_rows pass rest rows are in (
      later.0,
      subst (λ (k : List Row). IsPermutation (row ∷ rows) (k ++ later.0)) (sym is) (IsPermutation-cons row rows (rest ++ later.0) later.1),
      later.2,
    )
