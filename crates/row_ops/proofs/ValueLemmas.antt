-- Rows that are cut to all of their columns, and taken from a list in parts.
use Rattle.std.proofs.Common.{◌≡◌, ℕ, ◌+◌, ◌-◌, ◌≤◌, suc, Bool, true, false, List, [], ◌∷◌, ◌++◌, length, get_or, take, drop, map, refl, ap, sym, ◌∙◌, append_assoc, length-append, arith, subst}
use Rattle.std.specs.Prelude.{All, IsTrue, ◌&&◌}
use Rattle.std.specs.List.{range_with_len}
use Rattle.std.proofs.lemmas.List.{take-append-drop, drop-drop}
use Rattle.std.proofs.lemmas.List.Elements.{All-drop, All-take}
use Rattle.sql_values.specs.declared.types.SqlType.{SqlType}
use Rattle.sql_values.specs.declared.value.Value.{Value}
use Rattle.sql_values.specs.Cells.{cell, cut}
use Rattle.sql_values.specs.Blocks.{fits}
use Rattle.sql_values.specs.ColumnRows.{fits_row}
use Rattle.col_pages.specs.Pages.{TypedPage}
use Rattle.col_pages.specs.Fits.{AllFit, IsOfTypes}
use Rattle.page_processor.proofs.FilterLemmas.{first_fits, rest_fits}

cell_seam : (done row : List Value) (v : Value) (n : ℕ) → n ≡ length done → cell (done ++ v ∷ row) n ≡ v
cell_seam [] row v n e = ap (cell (v ∷ row)) e
cell_seam (d ∷ done) row v n e = ap (cell (d ∷ (done ++ v ∷ row))) e ∙ cell_seam done row v (length done) refl

cells_from : (done row : List Value) (n : ℕ) → n ≡ length done → map (cell (done ++ row)) (range_with_len n (length row)) ≡ row
cells_from done [] n e = refl
cells_from done (v ∷ row) n e =
    let later : map (cell ((done ++ v ∷ []) ++ row)) (range_with_len (n + 1) (length row)) ≡ row =
    cells_from (done ++ v ∷ []) row (n + 1) (omega (arith, e, length-append done (v ∷ []))) in
    let after : map (cell (done ++ v ∷ row)) (range_with_len (n + 1) (length row)) ≡ row =
    ap (λ all. map (cell all) (range_with_len (n + 1) (length row))) (sym (append_assoc done (v ∷ []) row)) ∙ later in
    (λ i. cell_seam done row v n e i ∷ after i)

fits_length : (types : List SqlType) (row : List Value) → fits_row types row ≡ true → length row ≡ length types
fits_length [] [] h = refl
fits_length [] (v ∷ row) h = cc
fits_length (kind ∷ types) [] h = cc
fits_length (kind ∷ types) (v ∷ row) h = ap suc (fits_length types row (second (fits kind v) (fits_row types row) h))
  where
    second : (a b : Bool) → a && b ≡ true → b ≡ true
    second true b h = h
    second false b h = cc

whole_row : (types : List SqlType) (row : List Value) → fits_row types row ≡ true → cut (range_with_len 0 (length types)) row ≡ row
whole_row types row fit = ap (λ n. cut (range_with_len 0 n) row) (sym (fits_length types row fit)) ∙ cells_from [] row 0 refl

whole_rows : (types : List SqlType) (rows : List (List Value)) → AllFit types rows → map (cut (range_with_len 0 (length types))) rows ≡ rows
whole_rows types [] all = refl
whole_rows types (row ∷ rows) all =
    (λ i. whole_row types row (first_fits types row rows all) i ∷ whole_rows types rows (rest_fits types row rows all) i)

-- rows that fit still do when they are cut to all of their columns
whole_fit : (types : List SqlType) (rows : List (List Value)) → AllFit types rows → All (λ row. IsTrue (fits_row types (cut (range_with_len 0 (length types)) row))) rows
whole_fit types rows all = λ k d l. subst (λ row. IsTrue (fits_row types row)) (sym (whole_row types (get_or rows k d) (all k d l))) (all k d l)

pub whole_fit_at : (types given : List SqlType) (columns : List ℕ) (rows : List (List Value)) → given ≡ types → columns ≡ range_with_len 0 (length types)
    → AllFit types rows → All (λ row. IsTrue (fits_row given (cut columns row))) rows
whole_fit_at types given columns rows same all fit = rw (same, all) (whole_fit types rows fit)

module _ (types : List SqlType) (rows : List (List Value)) (fit : AllFit types rows) (low high : ℕ) (order : low ≤ high) where
  part : List (List Value)
  part = take (high - low) (drop low rows)

  part-fits : AllFit types part
  unfolding part
  part-fits = All-take (λ row. IsTrue (fits_row types row)) (high - low) (drop low rows) (All-drop (λ row. IsTrue (fits_row types row)) low rows fit)

  next_rows : drop low rows ≡ map (cut (range_with_len 0 (length types))) (take (high - low) (drop low rows)) ++ drop high rows
  unfolding part
  next_rows =
      let place : low + (high - low) ≡ high = omega arith in
      sym (take-append-drop (high - low) (drop low rows))
      ∙ ap (λ xs. take (high - low) (drop low rows) ++ xs) (drop-drop (high - low) low rows ∙ ap (λ n. drop n rows) place)
      ∙ ap (λ xs. xs ++ drop high rows) (sym (whole_rows types part part-fits))

  module _ (given : List SqlType) (columns : List ℕ) (page : TypedPage) (same : given ≡ types) (all : columns ≡ range_with_len 0 (length types))
      (is : page ≡ record { types = given; rows = map (cut columns) (take (high - low) (drop low rows)) }) where
    page-is : page ≡ record { types = types; rows = map (cut (range_with_len 0 (length types))) (take (high - low) (drop low rows)) }
    page-is = is ∙ ap (λ ts. record { types = ts; rows = map (cut columns) (take (high - low) (drop low rows)) }) same
        ∙ ap (λ cs. record { types = types; rows = map (cut cs) (take (high - low) (drop low rows)) }) all

    -- the next page, and the rows behind it
    pub page-next : drop low rows ≡ page.rows ++ drop high rows
    page-next = next_rows ∙ ap (λ (p : TypedPage). p.rows ++ drop high rows) (sym page-is)

    pub page-of : IsOfTypes types page
    unfolding part
    page-of =
        let rows-are : page.rows ≡ part = ap (λ (p : TypedPage). p.rows) page-is ∙ whole_rows types part part-fits in
        record { of_types = ap (λ (p : TypedPage). p.types) page-is; fit = subst (AllFit types) (sym rows-are) part-fits }
