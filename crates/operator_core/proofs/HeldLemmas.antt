-- The rows of pages that each have a row.
use Rattle.std.proofs.Common.{◌≡◌, ◌<◌, List, [], ◌∷◌, ◌++◌, length, refl, append_assoc, append-nil, sym, arith}
use Rattle.std.specs.Prelude.{◌↔◌}
use Rattle.col_pages.specs.Pages.{TypedPage, rows_in}
use Rattle.operator_core.specs.Rows.{Row}
use Rattle.operator_core.specs.Held.{AllFull}

pub not_empty : (rows more : List Row) → 0 < length rows → rows ++ more ≡ [] → ⊥
not_empty [] more h e = absurd (omega arith)
not_empty (row ∷ rows) more h e = absurd (cc)

-- such pages have no rows exactly where there is no page
pub no_rows : (pages : List TypedPage) → AllFull pages → (rows_in pages ≡ []) ↔ (pages ≡ [])
no_rows [] full = ((λ _. refl), (λ _. refl))
no_rows (page ∷ pages) full = ((λ e. absurd (not_empty page.rows (rows_in pages) full.0 e)), (λ e. cc))

pub one_page_more : (pages : List TypedPage) (page : TypedPage) → rows_in (pages ++ page ∷ []) ≡ rows_in pages ++ page.rows
one_page_more [] page = append-nil page.rows
one_page_more (p ∷ pages) page = rw (one_page_more pages page) (sym (append_assoc p.rows (rows_in pages) page.rows))

pub one_full_more : (pages : List TypedPage) (page : TypedPage) → AllFull pages → 0 < length page.rows → AllFull (pages ++ page ∷ [])
one_full_more [] page full h = (h, tt)
one_full_more (p ∷ pages) page full h = (full.0, one_full_more pages page full.1 h)
