-- The columns that a list of rows gives, and the page that they make.
use Rattle.std.proofs.Common.{◌≡◌, ℕ, ◌+◌, ◌<◌, Bool, true, false, List, [], ◌∷◌, ◌++◌, length, get_or, take, map, refl, ap, sym, ◌∙◌, add-one, arith, zero, suc}
use Rattle.std.specs.Prelude.{All, replicate, ◌&&◌, IsTrue}
use Rattle.std.proofs.lemmas.List.{length-map, take_all}
use Rattle.sql_values.specs.declared.types.SqlType.{SqlType}
use Rattle.sql_values.specs.declared.value.Value.{Value}
use Rattle.sql_values.specs.Cells.{cell, cut}
use Rattle.sql_values.specs.Blocks.{TypedCells, fits}
use Rattle.sql_values.specs.ColumnRows.{cons_each, rows_of, kinds_of, common_length, AreFilled, fits_row}
use Rattle.col_pages.specs.Pages.{blocks_of}

pub kinds-blocks : (ks : List SqlType) (js : List ℕ) (rows : List (List Value)) → length ks ≡ length js → kinds_of (blocks_of ks js rows) ≡ ks
kinds-blocks [] js rows h = refl
kinds-blocks (k ∷ ks) [] rows h = cc
kinds-blocks (k ∷ ks) (j ∷ js) rows h = ap (λ x. k ∷ x) (kinds-blocks ks js rows (omega arith))

pub filled-blocks : (ks : List SqlType) (js : List ℕ) (rows : List (List Value)) → AreFilled (length rows) zero (blocks_of ks js rows)
filled-blocks [] js rows = refl
filled-blocks (k ∷ ks) [] rows = refl
filled-blocks (k ∷ ks) (j ∷ js) rows = (length-map rows (λ row. cell row j), filled-blocks ks js rows)

pub length-blocks : (ks : List SqlType) (js : List ℕ) (rows : List (List Value)) → length ks ≡ length js → length (blocks_of ks js rows) ≡ length ks
length-blocks [] js rows h = refl
length-blocks (k ∷ ks) [] rows h = cc
length-blocks (k ∷ ks) (j ∷ js) rows h = ap suc (length-blocks ks js rows (omega arith))

pub common-blocks : (ks : List SqlType) (js : List ℕ) (rows : List (List Value)) → 0 < length ks → length ks ≡ length js → common_length (blocks_of ks js rows) ≡ length rows
common-blocks [] js rows l h = absurd (omega arith)
common-blocks (k ∷ ks) [] rows l h = cc
common-blocks (k ∷ ks) (j ∷ js) rows l h = length-map rows (λ row. cell row j)

cons_each-cut : (j : ℕ) (js : List ℕ) (rows : List (List Value)) → cons_each (map (λ row. cell row j) rows) (map (cut js) rows) ≡ map (cut (j ∷ js)) rows
cons_each-cut j js [] = refl
cons_each-cut j js (row ∷ rows) = ap (λ x. cut (j ∷ js) row ∷ x) (cons_each-cut j js rows)

no-cells : (rows : List (List Value)) → replicate (length rows) [] ≡ map (cut []) rows
no-cells [] = refl
no-cells (row ∷ rows) = ap (λ (x : List (List Value)). [] ∷ x) (no-cells rows)

pub rows-blocks : (ks : List SqlType) (js : List ℕ) (rows : List (List Value)) → length ks ≡ length js → rows_of (length rows) (blocks_of ks js rows) ≡ map (cut js) rows
rows-blocks [] [] rows h = no-cells rows
rows-blocks [] (j ∷ js) rows h = cc
rows-blocks (k ∷ ks) [] rows h = cc
rows-blocks (k ∷ ks) (j ∷ js) rows h =
    ap (cons_each (map (λ row. cell row j) rows)) (rows-blocks ks js rows (omega arith)) ∙ cons_each-cut j js rows

-- one more column
pub blocks-more : (ks : List SqlType) (js : List ℕ) (rows : List (List Value)) (i : ℕ) (k : SqlType) (j : ℕ) → length ks ≡ length js → i < length js → k ≡ get_or ks i k → j ≡ get_or js i j → blocks_of (take i ks) (take i js) rows ++ record { kind = k; cells = map (λ row. cell row j) rows } ∷ [] ≡ blocks_of (take (i + 1) ks) (take (i + 1) js) rows
blocks-more ks js rows i k j h l e f = rw add-one (grown ks js rows i k j h l e f)
  where
    grown : (ks : List SqlType) (js : List ℕ) (rows : List (List Value)) (i : ℕ) (k : SqlType) (j : ℕ) → length ks ≡ length js → i < length js → k ≡ get_or ks i k → j ≡ get_or js i j → blocks_of (take i ks) (take i js) rows ++ record { kind = k; cells = map (λ row. cell row j) rows } ∷ [] ≡ blocks_of (take (suc i) ks) (take (suc i) js) rows
    grown [] js rows i k j h l e f = absurd (omega arith)
    grown (a ∷ ks) [] rows i k j h l e f = absurd (omega arith)
    grown (a ∷ ks) (b ∷ js) rows zero k j h l e f = ap (λ (x : SqlType). record { kind = x; cells = map (λ row. cell row j) rows } ∷ []) e ∙ ap (λ (y : ℕ). record { kind = a; cells = map (λ row. cell row y) rows } ∷ []) f
    grown (a ∷ ks) (b ∷ js) rows (suc i) k j h l e f = ap (λ x. record { kind = a; cells = map (λ row. cell row b) rows } ∷ x) (grown ks js rows i k j (omega arith) (omega arith) e f)

and-first : (a b : Bool) → a && b ≡ true → a ≡ true
and-first true b h = refl
and-first false b h = h

and-second : (a b : Bool) → a && b ≡ true → b ≡ true
and-second true b h = h
and-second false b h = cc

-- each cell of a row that fits has the type of its column
cell-fits : (ks : List SqlType) (js : List ℕ) (row : List Value) (i : ℕ) (k : SqlType) (j : ℕ) → fits_row ks (cut js row) ≡ true → i < length js → length ks ≡ length js → k ≡ get_or ks i k → j ≡ get_or js i j → fits k (cell row j) ≡ true
cell-fits [] js row i k j t l h e f = absurd (omega arith)
cell-fits (a ∷ ks) [] row i k j t l h e f = absurd (omega arith)
cell-fits (a ∷ ks) (b ∷ js) row zero k j t l h e f =
    ap (λ (x : SqlType). fits x (cell row j)) e ∙ ap (λ (y : ℕ). fits a (cell row y)) f ∙ and-first (fits a (cell row b)) (fits_row ks (cut js row)) t
cell-fits (a ∷ ks) (b ∷ js) row (suc i) k j t l h e f =
    cell-fits ks js row i k j (and-second (fits a (cell row b)) (fits_row ks (cut js row)) t) (omega arith) (omega arith) e f

pub cells-fit : (ks : List SqlType) (js : List ℕ) (rows : List (List Value)) (i : ℕ) (k : SqlType) (j : ℕ) → All (λ row. IsTrue (fits_row ks (cut js row))) rows → i < length js → length ks ≡ length js → k ≡ get_or ks i k → j ≡ get_or js i j → All (λ row. IsTrue (fits k (cell row j))) rows
cells-fit ks js rows i k j t l h e f = λ n d w. cell-fits ks js (get_or rows n d) i k j (t n d w) l h e f
