-- AND, OR and COALESCE by values so far: what they make of outcomes, and of operands.
use Rattle.std.proofs.Common.{◌≡◌, ℕ, ◌+◌, ◌<◌, ◌≤◌, zero, suc, drop, map, true, false, List, [], ◌∷◌, length, get_or, refl, ap, sym, ◌∙◌, subst, arith}
use Rattle.std.specs.Prelude.{Bool, Option, Some, None, Result, Ok, Err, IfOk, IfSome, if◌then◌else◌}
use Rattle.sql_values.specs.declared.types.SqlType.{SqlType}
use Rattle.sql_values.specs.declared.value.Value.{Value}
use Rattle.sql_values.specs.declared.value.Value.TheVariants as value
use Rattle.sql_values.specs.Blocks.{TypedCells}
use Rattle.sql_functions.specs.Outcomes.{Outcome, and_then}
use Rattle.col_pages.specs.Pages.{TypedPage}
use Rattle.sql_functions.specs.Truth.{is_false, is_null, is_true, truth_and, truth_or}
use Rattle.sql_exprs.specs.declared.expr.Expr.{Expr}
use Rattle.sql_exprs.specs.Forms.{Form, Forms, call, form_view, forms_of, more, none}
use Rattle.sql_exprs.specs.Meaning.{kind_of, kinds_of, value_of}
use Rattle.sql_exprs.specs.Rows.{call_of, coalesce_of}
use Rattle.sql_exprs.proofs.TruthLemmas.{and_from, and_of_from, or_from, or_of_from}
use Rattle.column_exprs.specs.declared.chain.Chain.{Chain}
use Rattle.column_exprs.specs.declared.chain.Chain.TheVariants.{And, Or, Coalesce}
use Rattle.column_exprs.specs.declared.rows.Rows.{Rows}
use Rattle.column_exprs.specs.declared.operand.Operand.{Operand}
use Rattle.column_exprs.specs.declared.operand.Operand.TheVariants.{Made}
use Rattle.column_exprs.specs.declared.kept.Test.{Test}
use Rattle.column_exprs.specs.Kept.{IsPart, kept, meets}
use Rattle.column_exprs.specs.Chains.{GoesOn, chain_name, chain_start, chain_test, chained, joined, joined_at, outcomes_at, stepped}
use Rattle.column_exprs.specs.Operands.{AreOutcomes, HasCells, IsOperand, operand_cell, operand_kind, outcome_at}
use Rattle.column_exprs.proofs.KeptLemmas.{stands}

-- AND from a value so far on
and_chained : (os : List Outcome) (v : Value) → (if is_false v then Ok v else and_from v os) ≡ chained And v os
and_chained [] (value.Boolean true) = refl
and_chained [] (value.Boolean false) = refl
and_chained [] v = refl
and_chained (o ∷ os) (value.Boolean false) = and_chained os (value.Boolean false)
and_chained (Err kind ∷ os) (value.Boolean true) = refl
and_chained (Err kind ∷ os) v = refl
and_chained (Ok w ∷ os) (value.Boolean true) = and_chained os (truth_and (value.Boolean true) w)
and_chained (Ok w ∷ os) v = and_chained os (truth_and v w)

-- OR from a value so far on
or_chained : (os : List Outcome) (v : Value) → (if is_true v then Ok v else or_from v os) ≡ chained Or v os
or_chained [] (value.Boolean true) = refl
or_chained [] (value.Boolean false) = refl
or_chained [] v = refl
or_chained (o ∷ os) (value.Boolean true) = or_chained os (value.Boolean true)
or_chained (Err kind ∷ os) (value.Boolean false) = refl
or_chained (Err kind ∷ os) v = refl
or_chained (Ok w ∷ os) (value.Boolean false) = or_chained os (truth_or (value.Boolean false) w)
or_chained (Ok w ∷ os) v = or_chained os (truth_or v w)

-- COALESCE from a value so far on
coalesce_chained : (os : List Outcome) (v : Value) → (if is_null v then coalesce_of os else Ok v) ≡ chained Coalesce v os
coalesce_chained [] value.Null = refl
coalesce_chained [] v = refl
coalesce_chained (Err kind ∷ os) value.Null = refl
coalesce_chained (Ok w ∷ os) value.Null = coalesce_chained os w
coalesce_chained (o ∷ os) v = coalesce_chained os v

chain_call : (chain : Chain) (kinds : List SqlType) (os : List Outcome) → call_of (chain_name chain) kinds os ≡ chained chain (chain_start chain) os
chain_call And kinds os = and_of_from os ∙ and_chained os (value.Boolean true)
chain_call Or kinds os = or_of_from os ∙ or_chained os (value.Boolean false)
chain_call Coalesce kinds os = coalesce_chained os value.Null

-- one more argument, at the rows that need it
where_needed : (b : Bool) (f : Outcome → Outcome) (v : Value) (o p : Outcome) → (b ≡ true → o ≡ p) → (if b then f o else Ok v) ≡ (if b then f p else Ok v)
where_needed true f v o p h = ap f (h refl)
where_needed false f v o p h = refl

-- the outcome on a row that was kept
pub at_part : (test : Test) (values : ℕ → Value) (rows part : Rows) (form : Form) (b : Operand) → IsPart test values rows part → IsOperand form part b → (k : ℕ) → k < length rows.positions.now
    → meets test (values k) ≡ true → outcome_at form rows k ≡ Ok (operand_cell b (length (kept test values rows.positions.now k)))
at_part test values rows part form b h is k l needed =
    let place = length (kept test values rows.positions.now k) in
    let s = stands test values rows.positions.now (length rows.positions.now) k l needed in
    let here : get_or part.positions.now place 0 ≡ get_or rows.positions.now k 0 = ap (λ ps. get_or ps place 0) h.positions ∙ s.same in
    ap (λ p. value_of rows.page.now.types form (get_or rows.page.now.rows p [])) (sym here)
    ∙ ap (λ (page : TypedPage). value_of page.types form (get_or page.rows (get_or part.positions.now place 0) [])) (sym h.page)
    ∙ is.each place (omega (arith, s.few, ap length h.positions))

pub joined_made : (chain : Chain) (kind : SqlType) (rows part : Rows) (a b : Operand) (block : TypedCells) → IsPart (chain_test chain) (operand_cell a) rows part → block.kind ≡ kind
    → AreOutcomes (joined_at chain a b rows.positions.now) (length rows.positions.now) block.cells → (form : Form) → IsOperand form part b → GoesOn chain kind (more form none) rows a (Made block)
joined_made chain kind rows part a b block h e are form is = record {
  kind_is = e;
  cells = are.len;
  each = λ k l.
      let v = operand_cell a k in
      ap (λ p. and_then p (λ w. Ok w))
      (where_needed (meets (chain_test chain) v) (λ o. and_then o (λ w. Ok (joined chain v w))) v (outcome_at form rows k)
      (Ok (operand_cell b (length (kept (chain_test chain) (operand_cell a) rows.positions.now k))))
      (at_part (chain_test chain) (operand_cell a) rows part form b h is k l)
      ∙ are.each k l);
}

-- the same with the argument's form
pub part_found : {E : Type 0} (r : Result (Option Operand) E) (chain : Chain) (kind : SqlType) (rows part : Rows) (a b : Operand) (g : Form)
    → IfOk r (λ o. IfSome o (λ x. (form : Form) → IsOperand form part b → GoesOn chain kind (more form none) rows a x)) → IsOperand g part b
    → IfOk r (λ o. IfSome o (GoesOn chain kind (more g none) rows a))
part_found (Ok (Some x)) chain kind rows part a b g all h = all g h
part_found (Ok None) chain kind rows part a b g all h = tt
part_found (Err fault) chain kind rows part a b g all h = tt

pub joined_here : (chain : Chain) (a b : Operand) (positions : List ℕ) (k next : ℕ) (v x : Value) → v ≡ operand_cell a k → next ≡ length (kept (chain_test chain) (operand_cell a) positions k)
    → stepped chain v (Ok (operand_cell b next)) ≡ Ok x → joined_at chain a b positions k ≡ Ok x
joined_here chain a b positions k next v x e n is =
    ap (λ u. stepped chain u (Ok (operand_cell b (length (kept (chain_test chain) (operand_cell a) positions k))))) (sym e)
    ∙ ap (λ m. stepped chain v (Ok (operand_cell b m))) (sym n) ∙ is

-- arguments one after the other
kept_whole : (o : Outcome) → and_then o (λ w. Ok w) ≡ o
kept_whole (Ok v) = refl
kept_whole (Err kind) = refl

pub goes_none : (chain : Chain) (kind : SqlType) (rows : Rows) (a : Operand) → operand_kind a ≡ kind → HasCells a (length rows.positions.now) → GoesOn chain kind none rows a a
goes_none chain kind rows a e h = record { kind_is = e; cells = h; each = λ k l. refl }

pub goes_more : (chain : Chain) (kind : SqlType) (form : Form) (forms : Forms) (rows : Rows) (a b c : Operand) → GoesOn chain kind (more form none) rows a b → GoesOn chain kind forms rows b c
    → GoesOn chain kind (more form forms) rows a c
goes_more chain kind form forms rows a b c one rest = record {
  kind_is = rest.kind_is;
  cells = rest.cells;
  each = λ k l.
      ap (λ o. and_then o (λ w. chained chain w (outcomes_at forms rows k))) (sym (kept_whole (stepped chain (operand_cell a k) (outcome_at form rows k))) ∙ one.each k l)
      ∙ rest.each k l;
}

-- the call of all arguments, from the value that settles nothing on
pub chain_made : (chain : Chain) (kind : SqlType) (forms : Forms) (rows : Rows) (a o : Operand) → kind ≡ kind_of rows.page.now.types (call (chain_name chain) forms)
    → ((k : ℕ) → operand_cell a k ≡ chain_start chain) → GoesOn chain kind forms rows a o → IsOperand (call (chain_name chain) forms) rows o
chain_made chain kind forms rows a o e start goes = record {
  kind = goes.kind_is ∙ e;
  cells = goes.cells;
  each = λ k l.
      chain_call chain (kinds_of rows.page.now.types forms) (outcomes_at forms rows k)
      ∙ ap (λ u. chained chain u (outcomes_at forms rows k)) (sym (start k)) ∙ goes.each k l;
}

-- the arguments from a place on
pub from_place : {A : Type 0} (xs : List A) (i : ℕ) (x : A) → i < length xs → x ≡ get_or xs i x → drop i xs ≡ x ∷ drop (suc i) xs
from_place [] i x l e = absurd (omega arith)
from_place (y ∷ ys) zero x l e = ap (λ z. z ∷ ys) (sym e)
from_place (y ∷ ys) (suc i) x l e = from_place ys i x (omega (arith, l)) e

pub next_goes : (chain : Chain) (kind : SqlType) (args : List Expr) (i : ℕ) (arg : Expr) (rows : Rows) (a b o : Operand) → i < length args → arg ≡ get_or args i arg
    → GoesOn chain kind (more (form_view arg) none) rows a b → GoesOn chain kind (forms_of (map form_view (drop (i + 1) args))) rows b o
    → GoesOn chain kind (forms_of (map form_view (drop i args))) rows a o
next_goes chain kind args i arg rows a b o l e one rest =
    let step : i + 1 ≡ suc i = omega arith in
    subst (λ (es : List Expr). GoesOn chain kind (forms_of (map form_view es)) rows a o)
    (sym (from_place args i arg l e ∙ ap (λ n. arg ∷ drop n args) (sym step)))
    (goes_more chain kind (form_view arg) (forms_of (map form_view (drop (i + 1) args))) rows a b o one rest)

pub past_end : {A : Type 0} (xs : List A) (i : ℕ) → length xs ≤ i → drop i xs ≡ []
past_end [] zero l = refl
past_end [] (suc i) l = refl
past_end (x ∷ xs) zero l = absurd (omega arith)
past_end (x ∷ xs) (suc i) l = past_end xs i (omega (arith, l))

pub end_goes : (chain : Chain) (kind : SqlType) (args : List Expr) (i : ℕ) (rows : Rows) (a : Operand) → length args ≤ i → operand_kind a ≡ kind → HasCells a (length rows.positions.now)
    → GoesOn chain kind (forms_of (map form_view (drop i args))) rows a a
end_goes chain kind args i rows a l e h =
    subst (λ (es : List Expr). GoesOn chain kind (forms_of (map form_view es)) rows a a) (sym (past_end args i l)) (goes_none chain kind rows a e h)
