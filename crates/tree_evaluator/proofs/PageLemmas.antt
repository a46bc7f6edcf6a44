-- The rows of a list of pages, and a list with one page more.
use Rattle.std.specs.Prelude.{IsTrue}
use Rattle.std.proofs.lemmas.List.Elements.{All-append, All-nil}
use Rattle.sql_values.specs.ColumnRows.{fits_row}
use Rattle.std.proofs.Common.{◌≡◌, ◌<◌, List, [], ◌∷◌, ◌++◌, length, ap, sym, ◌∙◌, append_assoc}
use Rattle.std.proofs.lemmas.List.{append-nil}
use Rattle.sql_values.specs.declared.types.SqlType.{SqlType}
use Rattle.col_pages.specs.Pages.{TypedPage}
use Rattle.col_pages.specs.Fits.{AllFit}
use Rattle.tree_evaluator.specs.Pages.{ArePages, rows_in}

pub rows_more : (pages : List TypedPage) (page : TypedPage) → rows_in (pages ++ page ∷ []) ≡ rows_in pages ++ page.rows
rows_more [] page = append-nil page.rows
rows_more (first ∷ pages) page = ap (λ rows. first.rows ++ rows) (rows_more pages page) ∙ sym (append_assoc first.rows (rows_in pages) page.rows)

pub pages_more : (types : List SqlType) (pages : List TypedPage) (page : TypedPage) → ArePages types pages → page.types ≡ types → 0 < length page.rows → AllFit types page.rows
    → ArePages types (pages ++ page ∷ [])
pages_more types [] page all t some fit = (t, some, fit, tt)
pages_more types (first ∷ pages) page all t some fit = (all.0, all.1, all.2, pages_more types pages page all.3 t some fit)

pub rows_fit : (types : List SqlType) (pages : List TypedPage) → ArePages types pages → AllFit types (rows_in pages)
rows_fit types [] all = All-nil (λ row. IsTrue (fits_row types row))
rows_fit types (page ∷ pages) all = All-append (λ row. IsTrue (fits_row types row)) page.rows (rows_in pages) all.2 (rows_fit types pages all.3)
