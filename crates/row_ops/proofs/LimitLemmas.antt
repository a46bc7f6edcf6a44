-- What `LimitOp` may give after it took a page in.
use Rattle.std.proofs.Common.{◌≡◌, ◌-◌, ℕ, zero, suc, List, [], ◌∷◌, ◌++◌, length, take, ap, sym, ◌∙◌, Option, Some, None, arith}
use Rattle.std.specs.Prelude.{MatchOption}
use Rattle.sql_values.specs.declared.value.Value.{Value}
use Rattle.col_pages.specs.Pages.{TypedPage}
use Rattle.row_ops.specs.RowsHeld.{rows_held}
use Rattle.row_ops.specs.Limits.{LimitGives}

-- the first rows of a page, or none where it has none of them
abbrev pub AreFirst : Option TypedPage → TypedPage → ℕ → Type 0
AreFirst held page most = MatchOption held (take most page.rows ≡ []) (λ p. p ≡ record page { rows = take most page.rows })

pub first-held : (held : Option TypedPage) (page : TypedPage) (most : ℕ) → AreFirst held page most → rows_held held ≡ take most page.rows
first-held None page most e = sym e
first-held (Some p) page most e = ap (λ (q : TypedPage). q.rows) e

take-more : (most : ℕ) (rows X : List (List Value)) → take most (rows ++ X) ≡ take most rows ++ take (most - length rows) X
take-more zero rows X = let none : zero - length rows ≡ zero = omega arith in sym (ap (λ n. take n X) none)
take-more (suc most) [] X = let all : suc most - 0 ≡ suc most = omega arith in sym (ap (λ n. take n X) all)
take-more (suc most) (row ∷ rows) X =
    let rest : suc most - suc (length rows) ≡ most - length rows = omega arith in
    ap (λ rs. row ∷ rs) (take-more most rows X) ∙ ap (λ n. row ∷ (take most rows ++ take n X)) (sym rest)

pub limit-took : (left count : ℕ) (old new : Option TypedPage) (page : TypedPage) (X B : List (List Value)) → rows_held old ≡ []
    → AreFirst new page left → count ≡ left - length page.rows → LimitGives count new X B → LimitGives left old (page.rows ++ X) B
limit-took left count old new page X B empty first rest g =
    g ∙ ap (λ rows. rows ++ take count X) (first-held new page left first) ∙ ap (λ n. take left page.rows ++ take n X) rest
    ∙ sym (take-more left page.rows X) ∙ sym (ap (λ rows. rows ++ take left (page.rows ++ X)) empty)
