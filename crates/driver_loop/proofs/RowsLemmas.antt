-- Rows given page by page.
use Rattle.std.proofs.Common.{◌≡◌, ℕ, List, [], ◌++◌, false, Option, Some, None, Ok, length, take, drop, refl, sym, ap, subst, ◌∙◌, append_assoc, append-nil}
use Rattle.std.specs.Prelude.{nat_lt}
use Rattle.std.proofs.lemmas.Bool.{ltb-false}
use Rattle.std.proofs.lemmas.List.{take-append-drop, append_cancel_right, drop_all}
use Rattle.col_pages.specs.Pages.{TypedPage}
use Rattle.operator_core.specs.Answers.{gave}
use Rattle.operator_core.specs.Rows.{Row, Coming}
use Rattle.operator_core.proofs.StageLemmas.{Coming-none}
use Rattle.row_ops.specs.ValueRows.{ValuesState, rows_to_give}

-- a page of the rows that were left was given
pub given_next : (n m : ℕ) (rows more P : List Row) → more ≡ rows → P ++ drop m more ≡ drop n rows → take m more ≡ take n rows ++ P
given_next n m rows more P same left =
    append_cancel_right (take m more) (take n rows ++ P) (drop m more)
    (take-append-drop m more ∙ same ∙ sym (take-append-drop n rows) ∙ ap (λ x. take n rows ++ x) (sym left) ∙ sym (append_assoc (take n rows) P (drop m more)))

-- where none is left, all were given
pub given_all : (n : ℕ) (rows : List Row) → drop n rows ≡ [] → take n rows ≡ rows
given_all n rows none = sym (append-nil (take n rows)) ∙ ap (λ x. take n rows ++ x) (sym none) ∙ take-append-drop n rows

-- what an operator of rows gave, with what it has left, is what it had left
pub left_next : (old new : ValuesState) (o : Option TypedPage)
    → ((Z B : List Row) → Coming old.is_told Z → B ≡ rows_to_give new → gave (Ok o) ++ B ≡ rows_to_give old) → gave (Ok o) ++ rows_to_give new ≡ rows_to_give old
left_next old new o gives = gives [] (rows_to_give new) (Coming-none old.is_told) refl

pub some_next : (old new : ValuesState) (o : Option TypedPage) (page : TypedPage) → o ≡ Some page → new.rows ≡ old.rows → gave (Ok o) ++ rows_to_give new ≡ rows_to_give old
    → take new.given new.rows ≡ take old.given old.rows ++ page.rows
some_next old new o page e same left =
    given_next old.given new.given old.rows new.rows page.rows same (subst (λ (o : Option TypedPage). gave (Ok o) ++ rows_to_give new ≡ rows_to_give old) e left)

pub none_next : (old new : ValuesState) (o : Option TypedPage) → o ≡ None → new.rows ≡ old.rows → gave (Ok o) ++ rows_to_give new ≡ rows_to_give old
    → take new.given new.rows ≡ take old.given old.rows
none_next old new o e same left =
    given_next old.given new.given old.rows new.rows [] same (subst (λ (o : Option TypedPage). gave (Ok o) ++ rows_to_give new ≡ rows_to_give old) e left)
    ∙ append-nil (take old.given old.rows)

pub none_left : (old new : ValuesState) (o : Option TypedPage) → o ≡ None → nat_lt old.given (length old.rows) ≡ false → gave (Ok o) ++ rows_to_give new ≡ rows_to_give old
    → rows_to_give new ≡ []
none_left old new o e held left =
    subst (λ (o : Option TypedPage). gave (Ok o) ++ rows_to_give new ≡ rows_to_give old) e left ∙ drop_all old.given old.rows (ltb-false old.given (length old.rows) held)
