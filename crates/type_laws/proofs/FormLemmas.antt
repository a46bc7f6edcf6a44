-- The value of a typed form on a row that has the columns' types has the type of the form.
use Rattle.std.proofs.Common.{◌≡◌, ℕ, zero, suc, ◌+◌, List, [], ◌∷◌, Bool, true, false, if◌then◌else◌, Option, Some, None, refl, sym, subst}
use Rattle.std.specs.Prelude.{Result, Ok, Err, not, ◌&&◌, slice_get}
use Rattle.std.specs.List.{list_all, list_any}
use Rattle.json_paths.specs.declared.key.Key.TheVariants as key
use Rattle.std.proofs.lemmas.Bool.{and_from}
use Rattle.sql_values.proofs.BlockLemmas.{typed_fits}
use Rattle.sql_values.specs.Blocks.{fits}
use Rattle.sql_values.specs.ColumnRows.{fits_row}
use Rattle.sql_values.specs.declared.types.SqlType.{SqlType}
use Rattle.sql_values.specs.declared.types.SqlType.TheVariants as type
use Rattle.sql_values.specs.declared.value.Value.{Value}
use Rattle.sql_values.specs.declared.value.Value.TheVariants.{Null, Boolean}
use Rattle.sql_values.specs.declared.fail.Fail.{Fail}
use Rattle.sql_values.specs.Cells.{cell}
use Rattle.sql_values.specs.Types.{has_type, row_has_types}
use Rattle.sql_functions.specs.declared.name.CallName.{CallName}
use Rattle.sql_functions.specs.declared.name.CallName.TheVariants.{And, Or, Coalesce}
use Rattle.sql_functions.specs.Outcomes.{Outcome, and_then}
use Rattle.sql_functions.specs.Truth.{is_false, is_null, is_true}
use Rattle.sql_functions.specs.Casts.{cast_of}
use Rattle.sql_functions.specs.Calls.{binary_of, unary_of}
use Rattle.sql_functions.specs.CallTypes.{call_type, can_cast, is_boolean, same_type, takes_types, type_at}
use Rattle.sql_functions.proofs.TypeLemmas.{both_true, coalesce_takes, same_type_is}
use Rattle.sql_exprs.specs.declared.typing.BranchType.{BranchType}
use Rattle.sql_exprs.specs.Forms.{Form, column, literal, null, call, cast, choice, Forms, none, more, Choices, last, branch}
use Rattle.sql_exprs.specs.Literals.{is_value_of}
use Rattle.sql_exprs.specs.Rows.{all_of, any_of, call_of, case_of, chosen_of, coalesce_of, decided, evaluated, over, strict_of}
use Rattle.sql_exprs.specs.Meaning.{branches_of, kind_of, kinds_of, type_of_call, value_of, values_of}
use Rattle.sql_exprs.specs.Typing.{Path, branch_types, call_row, case_row, cast_row, entry, fits_branch, form_type, form_types, typed_then, under}
use Rattle.sql_exprs.proofs.TypingLemmas.{chosen_ok, found_ok, kind_is, kinds_are, typed_then_ok}
use Rattle.sql_exprs.proofs.FitLemmas.{after_result, after_test, branches_same, ok_same, with_branch}
use Rattle.type_laws.specs.Keeps.{ArgsCastToTypes, BranchesCastToTypes, CastsToTypes, KeepsType}
use Rattle.type_laws.proofs.CallLemmas.{binary_keeps, unary_keeps}
use Rattle.type_laws.proofs.CastLemmas.{cast_keeps}

-- each outcome keeps to the type at its place
abbrev pub AllKeep : List SqlType → List Outcome → Type 0
AllKeep [] [] = Unit {0}
AllKeep [] (o ∷ os) = ⊥
AllKeep (k ∷ ks) [] = ⊥
AllKeep (k ∷ ks) (o ∷ os) = KeepsType k o × AllKeep ks os

then_keeps : (k l : SqlType) (o : Outcome) (next : Value → Outcome) → KeepsType k o → ((v : Value) → has_type k v ≡ true → KeepsType l (next v)) → KeepsType l (and_then o next)
then_keeps k l (Ok v) next h each = each v h
then_keeps k l (Err fail) next h each = tt

if_keeps : (k : SqlType) (b : Bool) (o p : Outcome) → KeepsType k o → KeepsType k p → KeepsType k (if b then o else p)
if_keeps k true o p g h = g
if_keeps k false o p g h = h

strict_keeps : (name : CallName) (ks : List SqlType) (os : List Outcome) → AllKeep ks os → KeepsType (type_of_call name ks) (strict_of name ks os)
strict_keeps name [] [] h = refl
strict_keeps name [] (o ∷ os) h = absurd h
strict_keeps name (k ∷ ks) [] h = absurd h
strict_keeps name (k ∷ []) (o ∷ []) h = then_keeps k (call_type name k type.Boolean) o (unary_of name k) h.0 (unary_keeps name k)
strict_keeps name (k ∷ []) (o ∷ p ∷ os) h = absurd h.1
strict_keeps name (k ∷ l ∷ ks) (o ∷ []) h = absurd h.1
strict_keeps name (k ∷ l ∷ []) (o ∷ p ∷ []) h =
    then_keeps k (call_type name k l) o (λ v. and_then p (binary_of name k l v)) h.0
    (λ v f. then_keeps l (call_type name k l) p (binary_of name k l v) h.1.0 (λ w g. binary_keeps name k l v w f g))
strict_keeps name (k ∷ l ∷ []) (o ∷ p ∷ q ∷ os) h = absurd h.1.1
strict_keeps name (k ∷ l ∷ m ∷ ks) (o ∷ p ∷ []) h = absurd h.1.1
strict_keeps name (k ∷ l ∷ m ∷ ks) (o ∷ p ∷ q ∷ os) h = refl

truth_keeps : (a b c d : Bool) → has_type type.Boolean (if a then Boolean c else if b then Null else Boolean d) ≡ true
truth_keeps true b c d = refl
truth_keeps false true c d = refl
truth_keeps false false c d = refl

all_keeps : (r : Result (List Value) Fail) → KeepsType type.Boolean (over all_of r)
all_keeps (Ok vs) = truth_keeps (list_any is_false vs) (list_any is_null vs) false true
all_keeps (Err fail) = tt

any_keeps : (r : Result (List Value) Fail) → KeepsType type.Boolean (over any_of r)
any_keeps (Ok vs) = truth_keeps (list_any is_true vs) (list_any is_null vs) true false
any_keeps (Err fail) = tt

coalesce_keeps : (k : SqlType) (ks : List SqlType) (os : List Outcome) → AllKeep ks os → list_all (same_type k) ks ≡ true → KeepsType k (coalesce_of os)
coalesce_keeps k [] [] h s = refl
coalesce_keeps k [] (o ∷ os) h s = absurd h
coalesce_keeps k (l ∷ ks) [] h s = absurd h
coalesce_keeps k (l ∷ ks) (o ∷ os) h s =
    let both = both_true (same_type k l) (list_all (same_type k) ks) s in
    let same : k ≡ l = same_type_is k l both.0 in
    then_keeps l k o (λ v. if is_null v then coalesce_of os else Ok v) h.0
    (λ v f. if_keeps k (is_null v) (coalesce_of os) (Ok v) (coalesce_keeps k ks os h.1 both.1) (subst (λ (t : SqlType). has_type t v ≡ true) (sym same) f))

call_keeps : (name : CallName) (ks : List SqlType) (os : List Outcome) → takes_types name ks ≡ true → AllKeep ks os → KeepsType (type_of_call name ks) (call_of name ks os)
call_keeps And ks os t h = all_keeps (evaluated is_false os)
call_keeps Or ks os t h = any_keeps (evaluated is_true os)
call_keeps Coalesce ks os t h = coalesce_keeps (type_at ks 0) ks os h (coalesce_takes ks t)
call_keeps name ks os t h = strict_keeps name ks os h

pub cell_has_type : (types : List SqlType) (row : List Value) (n : ℕ) (k : SqlType) → row_has_types types row ≡ true → slice_get types n ≡ Some k → has_type k (cell row n) ≡ true
cell_has_type [] row zero k f e = cc
cell_has_type [] row (suc n) k f e = cc
cell_has_type (t ∷ types) [] n k f e = cc
cell_has_type (t ∷ types) (v ∷ row) zero k f e =
    let same : t ≡ k = cc in
    subst (λ (u : SqlType). has_type u v ≡ true) same (both_true (has_type t v) (row_has_types types row) f).0
cell_has_type (t ∷ types) (v ∷ row) (suc n) k f e = cell_has_type types row n k (both_true (has_type t v) (row_has_types types row) f).1 e

-- a choice, where there is one, keeps to the type
abbrev ChoiceKeeps : SqlType → Option Outcome → Type 0
ChoiceKeeps k None = Unit {0}
ChoiceKeeps k (Some o) = KeepsType k o

chosen_keeps : (k : SqlType) (b : Bool) (result : Outcome) (rest : Option Outcome) → KeepsType k result → ChoiceKeeps k rest → ChoiceKeeps k (if b then Some result else rest)
chosen_keeps k true result rest g h = g
chosen_keeps k false result rest g h = h

decided_keeps : (k : SqlType) (test result : Outcome) (rest : Option Outcome) → KeepsType k result → ChoiceKeeps k rest → ChoiceKeeps k (decided test result rest)
decided_keeps k (Ok v) result rest g h = chosen_keeps k (is_true v) result rest g h
decided_keeps k (Err fail) result rest g h = tt

case_keeps : (k : SqlType) (bs : List (Outcome × Outcome)) (other : Outcome) (chosen : Option Outcome) → chosen_of bs ≡ chosen → ChoiceKeeps k chosen → KeepsType k other → KeepsType k (case_of bs other)
case_keeps k bs other (Some o) e g h = rw e g
case_keeps k bs other None e g h = rw e h

mutual
  pub value_keeps : (types : List SqlType) (row : List Value) → row_has_types types row ≡ true → (path : Path) (form : Form) (k : SqlType) → CastsToTypes form → form_type types path form ≡ Ok k → KeepsType k (value_of types form row)
  value_keeps types row f path (column n) k c e = cell_has_type types row n k f (found_ok (slice_get types n) path k e)
  value_keeps types row f path (literal kind value) k c e =
      let typed = chosen_ok (is_value_of kind value) kind k (under path key.Lit) e in
      subst (λ (t : SqlType). has_type t value ≡ true) typed.1 (both_true (not (is_null value)) (has_type kind value) typed.0).1
  value_keeps types row f path (null kind) k c e = refl
  value_keeps types row f path (call name args) k c e =
      typed_then_ok (form_types types (under path key.Args) 0 args) (call_row path name) k (KeepsType k (value_of types (call name args) row)) e
      (λ kinds h g.
      let typed = chosen_ok (takes_types name kinds) (type_of_call name kinds) k path g in
      let own : kinds_of types args ≡ kinds = kinds_are types (under path key.Args) 0 args kinds h in
      let P : List SqlType → Type 0 = λ ks. KeepsType k (call_of name ks (values_of types args row)) in
      subst P (sym own) (subst (λ (t : SqlType). KeepsType t (call_of name kinds (values_of types args row))) typed.1
      (call_keeps name kinds (values_of types args row) typed.0 (args_keep types row f (under path key.Args) 0 args kinds c h))))
  value_keeps types row f path (cast arg kind) k c e =
      typed_then_ok (form_type types (under path key.Cast) arg) (λ from. cast_row path from kind) k (KeepsType k (value_of types (cast arg kind) row)) e
      (λ from h g.
      let typed = chosen_ok (can_cast from kind) kind k path g in
      let own : kind_of types arg ≡ from = kind_is types (under path key.Cast) arg from h in
      let P : SqlType → Type 0 = λ t. KeepsType k (and_then (value_of types arg row) (cast_of t kind)) in
      subst P (sym own) (subst (λ (t : SqlType). KeepsType t (and_then (value_of types arg row) (cast_of from kind))) typed.1
      (then_keeps from kind (value_of types arg row) (cast_of from kind) (value_keeps types row f (under path key.Cast) arg from c.1 h) (λ v has. cast_keeps from kind v c.0 typed.0 has))))
  value_keeps types row f path (choice branches other) k c e =
      typed_then_ok (branch_types types (under path key.Case) 0 branches) (λ bs. typed_then (form_type types (under path key.Else) other) (case_row path bs)) k (KeepsType k (value_of types (choice branches other) row)) e
      (λ bs h g. typed_then_ok (form_type types (under path key.Else) other) (case_row path bs) k (KeepsType k (value_of types (choice branches other) row)) g
      (λ o h2 g2.
      let typed = chosen_ok (list_all (fits_branch o) bs) o k path g2 in
      subst (λ (t : SqlType). KeepsType t (value_of types (choice branches other) row)) typed.1
      (case_keeps o (branches_of types branches row) (value_of types other row) (chosen_of (branches_of types branches row)) refl
      (choice_keeps types row f (under path key.Case) 0 branches bs c.0 h o typed.0) (value_keeps types row f (under path key.Else) other o c.1 h2))))

  pub args_keep : (types : List SqlType) (row : List Value) → row_has_types types row ≡ true → (path : Path) (i : ℕ) (forms : Forms) (kinds : List SqlType) → ArgsCastToTypes forms → form_types types path i forms ≡ Ok kinds → AllKeep kinds (values_of types forms row)
  args_keep types row f path i none kinds c e = subst (λ (ks : List SqlType). AllKeep ks []) (ok_same [] kinds e) tt
  args_keep types row f path i (more form forms) kinds c e =
      typed_then_ok (form_type types (entry path i) form) (λ kind. typed_then (form_types types path (i + 1) forms) (λ rest. Ok (kind ∷ rest))) kinds (AllKeep kinds (values_of types (more form forms) row)) e
      (λ kind h g. typed_then_ok (form_types types path (i + 1) forms) (λ rest. Ok (kind ∷ rest)) kinds (AllKeep kinds (values_of types (more form forms) row)) g
      (λ rest h2 g2. subst (λ (ks : List SqlType). AllKeep ks (values_of types (more form forms) row)) (ok_same (kind ∷ rest) kinds g2)
      (value_keeps types row f (entry path i) form kind c.0 h, args_keep types row f path (i + 1) forms rest c.1 h2)))

  choice_keeps : (types : List SqlType) (row : List Value) → row_has_types types row ≡ true → (path : Path) (i : ℕ) (branches : Choices) (bs : List BranchType) → BranchesCastToTypes branches → branch_types types path i branches ≡ Ok bs → (o : SqlType) → list_all (fits_branch o) bs ≡ true → ChoiceKeeps o (chosen_of (branches_of types branches row))
  choice_keeps types row f path i last bs c e o all = tt
  choice_keeps types row f path i (branch test result others) bs c e o all =
      typed_then_ok (form_type types (under (entry path i) key.When) test) (after_test types path i result others) bs (ChoiceKeeps o (chosen_of (branches_of types (branch test result others) row))) e
      (λ t h g. typed_then_ok (form_type types (under (entry path i) key.Then) result) (after_result types path i others t) bs (ChoiceKeeps o (chosen_of (branches_of types (branch test result others) row))) g
      (λ r h2 g2. typed_then_ok (branch_types types path (i + 1) others) (with_branch t r) bs (ChoiceKeeps o (chosen_of (branches_of types (branch test result others) row))) g2
      (λ rest h3 g3.
      let fit = both_true (is_boolean t && same_type r o) (list_all (fits_branch o) rest) (subst (λ (xs : List BranchType). list_all (fits_branch o) xs ≡ true) (sym (branches_same t r rest bs g3)) all) in
      let same : r ≡ o = same_type_is r o (both_true (is_boolean t) (same_type r o) fit.0).1 in
      decided_keeps o (value_of types test row) (value_of types result row) (chosen_of (branches_of types others row))
      (subst (λ (u : SqlType). KeepsType u (value_of types result row)) same (value_keeps types row f (under (entry path i) key.Then) result r c.1 h2))
      (choice_keeps types row f path (i + 1) others rest c.2 h3 o fit.1))))

-- values of their types have the variants of these
pub typed_row_fits : (types : List SqlType) (row : List Value) → row_has_types types row ≡ true → fits_row types row ≡ true
typed_row_fits [] [] h = refl
typed_row_fits [] (v ∷ row) h = cc
typed_row_fits (kind ∷ types) [] h = cc
typed_row_fits (kind ∷ types) (v ∷ row) h =
    let parts = both_true (has_type kind v) (row_has_types types row) h in
    and_from (fits kind v) (fits_row types row) (typed_fits kind v parts.0) (typed_row_fits types row parts.1)
