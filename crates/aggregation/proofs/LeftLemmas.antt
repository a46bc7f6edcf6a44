-- Rows that are left, and the next page of them.
use Rattle.std.proofs.Common.{◌≡◌, ℕ, ◌+◌, ◌-◌, ◌<◌, ◌≤◌, zero, suc, List, [], ◌∷◌, ◌++◌, length, take, drop, Bool, true, false, refl, ap, sym, subst, ◌∙◌, arith, length-drop}
use Rattle.std.specs.Prelude.{IsTrue, nat_lt}
use Rattle.std.proofs.lemmas.Bool.{le-ltb, lt-ltb, ltb-false, ltb-true}
use Rattle.std.proofs.lemmas.List.{drop-drop, length-take, take-append-drop}
use Rattle.std.proofs.lemmas.List.Elements.{All-drop, All-take}
use Rattle.sql_values.specs.declared.types.SqlType.{SqlType}
use Rattle.sql_values.specs.declared.value.Value.{Value}
use Rattle.sql_values.specs.ColumnRows.{TypedRows, fits_row}
use Rattle.operator_core.specs.Samples.{has_row}
use Rattle.col_pages.specs.Pages.{TypedPage}
use Rattle.col_pages.specs.Fits.{AllFit}
use Rattle.aggregation.specs.Giving.{IsNextPage, RowsLeft}

below : (given n : ℕ) (b : Bool) → nat_lt given n ≡ b → nat_lt (suc given) (suc n) ≡ b
below given n true e = lt-ltb (suc given) (suc n) (omega (arith, ltb-true given n e))
below given n false e = le-ltb (suc given) (suc n) (omega (arith, ltb-false given n e))

pub some-left : (rows : List (List Value)) (given : ℕ) → nat_lt given (length rows) ≡ has_row (drop given rows)
some-left [] zero = le-ltb 0 0 (omega arith)
some-left [] (suc given) = le-ltb (suc given) 0 (omega arith)
some-left (row ∷ rows) zero = lt-ltb 0 (suc (length rows)) (omega arith)
some-left (row ∷ rows) (suc given) = below given (length rows) (nat_lt given (length rows)) refl ∙ some-left rows given

pub next-page : (held cut : TypedRows) (given high page : ℕ) (old new : RowsLeft) (p : TypedPage)
    → old ≡ record { types = held.types; page = page; rows = drop given held.rows } → new ≡ record { types = held.types; page = page; rows = drop high held.rows }
    → cut ≡ record held { rows = take (high - given) (drop given held.rows); begun = [] } → p ≡ record { types = cut.types; rows = cut.rows }
    → AllFit held.types held.rows → given < high → high ≤ length held.rows → high ≤ given + page → IsNextPage old p new
next-page held cut given high page old new p before after is of fit more inside most =
    let R = held.rows in
    let rows : p.rows ≡ take (high - given) (drop given R) = ap (λ (x : TypedPage). x.rows) of ∙ ap (λ (x : TypedRows). x.rows) is in
    let types : p.types ≡ held.types = ap (λ (x : TypedPage). x.types) of ∙ ap (λ (x : TypedRows). x.types) is in
    let place : given + (high - given) ≡ high = omega (arith, more) in
    let long : length p.rows ≡ high - given = ap length rows ∙ length-take (high - given) (drop given R) ∙ omega (arith, length-drop given R, inside, more) in
    let size : old.page ≡ page = ap (λ (x : RowsLeft). x.page) before in
    let kinds : held.types ≡ old.types = sym (ap (λ (x : RowsLeft). x.types) before) in
    record {
      rows = ap (λ (x : RowsLeft). x.rows) before
          ∙ sym (take-append-drop (high - given) (drop given R))
          ∙ (λ i. sym rows i ++ (drop-drop (high - given) given R ∙ ap (λ n. drop n R) place ∙ sym (ap (λ (x : RowsLeft). x.rows) after)) i);
      some = omega (arith, long, more);
      most = omega (arith, long, most, size);
      of = record {
        of_types = types ∙ kinds;
        fit = subst (λ (ts : List SqlType). AllFit ts p.rows) kinds
            (subst (λ (rs : List (List Value)). AllFit held.types rs) (sym rows)
            (All-take (λ row. IsTrue (fits_row held.types row)) (high - given) (drop given R) (All-drop (λ row. IsTrue (fits_row held.types row)) given R fit)));
      };
    }
