-- The value of a typed form on a row that fits the columns' types fits the type of the form.
use Rattle.std.proofs.Common.{◌≡◌, ℕ, zero, suc, ◌+◌, List, [], ◌∷◌, Bool, true, false, if◌then◌else◌, Option, Some, None, refl, sym, subst}
use Rattle.std.specs.Prelude.{Result, Ok, Err, ◌&&◌, slice_get}
use Rattle.std.specs.List.{list_all, list_any}
use Rattle.json_paths.specs.declared.key.Key.TheVariants as key
use Rattle.sql_values.specs.declared.types.SqlType.{SqlType}
use Rattle.sql_values.specs.declared.types.SqlType.TheVariants as type
use Rattle.sql_values.specs.declared.value.Value.{Value}
use Rattle.sql_values.specs.declared.value.Value.TheVariants.{Null, Boolean, Bigint, Decimal, Varchar, Date}
use Rattle.sql_values.specs.declared.fail.Fail.{Fail}
use Rattle.sql_values.specs.Blocks.{fits}
use Rattle.sql_values.specs.Cells.{cell}
use Rattle.sql_values.specs.ColumnRows.{fits_row}
use Rattle.sql_functions.specs.declared.name.CallName.{CallName}
use Rattle.sql_functions.specs.declared.name.CallName.TheVariants.{And, Or, Coalesce}
use Rattle.sql_functions.specs.Outcomes.{Outcome, GivesType, and_then}
use Rattle.sql_functions.specs.Truth.{is_false, is_null, is_true}
use Rattle.sql_functions.specs.Casts.{cast_of}
use Rattle.sql_functions.specs.Calls.{binary_of, unary_of}
use Rattle.sql_functions.specs.CallTypes.{call_type, can_cast, is_boolean, same_type, takes_types, type_at}
use Rattle.sql_functions.proofs.FitLemmas.{binary_fits, null_fits, unary_fits}
use Rattle.sql_functions.proofs.CastFitLemmas.{cast_fits}
use Rattle.sql_functions.proofs.TypeLemmas.{both_true, coalesce_takes, same_type_is}
use Rattle.sql_exprs.specs.declared.typing.BranchType.{BranchType}
use Rattle.sql_exprs.specs.Forms.{Form, column, literal, null, call, cast, choice, Forms, none, more, Choices, last, branch}
use Rattle.sql_exprs.specs.Literals.{is_value_of}
use Rattle.sql_exprs.specs.Rows.{all_of, any_of, call_of, case_of, chosen_of, coalesce_of, decided, evaluated, over, strict_of}
use Rattle.sql_exprs.specs.Meaning.{branches_of, kind_of, kinds_of, type_of_call, value_of, values_of}
use Rattle.sql_exprs.specs.Typing.{Path, branch_types, call_row, case_row, cast_row, entry, fits_branch, form_type, form_types, typed_then, under}
use Rattle.sql_exprs.proofs.TypingLemmas.{chosen_ok, found_ok, kind_is, kinds_are, typed_then_ok}

-- each outcome gives the type at its place
abbrev pub AllGive : List SqlType → List Outcome → Type 0
AllGive [] [] = Unit {0}
AllGive [] (o ∷ os) = ⊥
AllGive (k ∷ ks) [] = ⊥
AllGive (k ∷ ks) (o ∷ os) = GivesType k o × AllGive ks os

then_gives : (k l : SqlType) (o : Outcome) (next : Value → Outcome) → GivesType k o → ((v : Value) → fits k v ≡ true → GivesType l (next v)) → GivesType l (and_then o next)
then_gives k l (Ok v) next h each = each v h
then_gives k l (Err fail) next h each = tt

if_gives : (k : SqlType) (b : Bool) (o p : Outcome) → GivesType k o → GivesType k p → GivesType k (if b then o else p)
if_gives k true o p g h = g
if_gives k false o p g h = h

strict_gives : (name : CallName) (ks : List SqlType) (os : List Outcome) → AllGive ks os → GivesType (type_of_call name ks) (strict_of name ks os)
strict_gives name [] [] h = null_fits (type_of_call name [])
strict_gives name [] (o ∷ os) h = absurd h
strict_gives name (k ∷ ks) [] h = absurd h
strict_gives name (k ∷ []) (o ∷ []) h = then_gives k (call_type name k type.Boolean) o (unary_of name k) h.0 (unary_fits name k)
strict_gives name (k ∷ []) (o ∷ p ∷ os) h = absurd h.1
strict_gives name (k ∷ l ∷ ks) (o ∷ []) h = absurd h.1
strict_gives name (k ∷ l ∷ []) (o ∷ p ∷ []) h =
    then_gives k (call_type name k l) o (λ v. and_then p (binary_of name k l v)) h.0
    (λ v f. then_gives l (call_type name k l) p (binary_of name k l v) h.1.0 (λ w g. binary_fits name k l v w f g))
strict_gives name (k ∷ l ∷ []) (o ∷ p ∷ q ∷ os) h = absurd h.1.1
strict_gives name (k ∷ l ∷ m ∷ ks) (o ∷ p ∷ []) h = absurd h.1.1
strict_gives name (k ∷ l ∷ m ∷ ks) (o ∷ p ∷ q ∷ os) h = null_fits (type_of_call name (k ∷ l ∷ m ∷ ks))

truth_fits : (a b c d : Bool) → fits type.Boolean (if a then Boolean c else if b then Null else Boolean d) ≡ true
truth_fits true b c d = refl
truth_fits false true c d = refl
truth_fits false false c d = refl

all_gives : (r : Result (List Value) Fail) → GivesType type.Boolean (over all_of r)
all_gives (Ok vs) = truth_fits (list_any is_false vs) (list_any is_null vs) false true
all_gives (Err fail) = tt

any_gives : (r : Result (List Value) Fail) → GivesType type.Boolean (over any_of r)
any_gives (Ok vs) = truth_fits (list_any is_true vs) (list_any is_null vs) true false
any_gives (Err fail) = tt

coalesce_gives : (k : SqlType) (ks : List SqlType) (os : List Outcome) → AllGive ks os → list_all (same_type k) ks ≡ true → GivesType k (coalesce_of os)
coalesce_gives k [] [] h s = null_fits k
coalesce_gives k [] (o ∷ os) h s = absurd h
coalesce_gives k (l ∷ ks) [] h s = absurd h
coalesce_gives k (l ∷ ks) (o ∷ os) h s =
    let both = both_true (same_type k l) (list_all (same_type k) ks) s in
    let same : k ≡ l = same_type_is k l both.0 in
    then_gives l k o (λ v. if is_null v then coalesce_of os else Ok v) h.0
    (λ v f. if_gives k (is_null v) (coalesce_of os) (Ok v) (coalesce_gives k ks os h.1 both.1) (subst (λ (t : SqlType). fits t v ≡ true) (sym same) f))

call_gives : (name : CallName) (ks : List SqlType) (os : List Outcome) → takes_types name ks ≡ true → AllGive ks os → GivesType (type_of_call name ks) (call_of name ks os)
call_gives And ks os t h = all_gives (evaluated is_false os)
call_gives Or ks os t h = any_gives (evaluated is_true os)
call_gives Coalesce ks os t h = coalesce_gives (type_at ks 0) ks os h (coalesce_takes ks t)
call_gives name ks os t h = strict_gives name ks os h

cell_fits : (types : List SqlType) (row : List Value) (n : ℕ) (k : SqlType) → fits_row types row ≡ true → slice_get types n ≡ Some k → fits k (cell row n) ≡ true
cell_fits [] row zero k f e = cc
cell_fits [] row (suc n) k f e = cc
cell_fits (t ∷ types) [] n k f e = cc
cell_fits (t ∷ types) (v ∷ row) zero k f e =
    let same : t ≡ k = cc in
    subst (λ (u : SqlType). fits u v ≡ true) same (both_true (fits t v) (fits_row types row) f).0
cell_fits (t ∷ types) (v ∷ row) (suc n) k f e = cell_fits types row n k (both_true (fits t v) (fits_row types row) f).1 e

literal_fits : (k : SqlType) (v : Value) → is_value_of k v ≡ true → fits k v ≡ true
literal_fits type.Boolean (Boolean b) h = refl
literal_fits type.Bigint (Bigint n) h = refl
literal_fits (type.Decimal p s) (Decimal n) h = refl
literal_fits type.Varchar (Varchar t) h = refl
literal_fits type.Date (Date d) h = refl
literal_fits k v h = cc

-- a choice, where there is one, gives the type
abbrev GivesChoice : SqlType → Option Outcome → Type 0
GivesChoice k None = Unit {0}
GivesChoice k (Some o) = GivesType k o

decided_gives : (k : SqlType) (test result : Outcome) (rest : Option Outcome) → GivesType k result → GivesChoice k rest → GivesChoice k (decided test result rest)
decided_gives k (Ok Null) result rest g h = h
decided_gives k (Ok (Boolean true)) result rest g h = g
decided_gives k (Ok (Boolean false)) result rest g h = h
decided_gives k (Ok (Bigint n)) result rest g h = h
decided_gives k (Ok (Decimal n)) result rest g h = h
decided_gives k (Ok (Varchar t)) result rest g h = h
decided_gives k (Ok (Date d)) result rest g h = h
decided_gives k (Err fail) result rest g h = tt

case_gives : (k : SqlType) (bs : List (Outcome × Outcome)) (other : Outcome) (chosen : Option Outcome) → chosen_of bs ≡ chosen → GivesChoice k chosen → GivesType k other → GivesType k (case_of bs other)
case_gives k bs other (Some o) e g h = rw e g
case_gives k bs other None e g h = rw e h

pub ok_same : (xs ys : List SqlType) → (let r : Result (List SqlType) Path = Ok xs in r) ≡ Ok ys → xs ≡ ys
ok_same xs ys e = cc

-- what is left of typing a branch behind its test, and behind its result
abbrev pub with_branch : SqlType → SqlType → List BranchType → Result (List BranchType) Path
with_branch t r rest = Ok (record { test = t; result = r } ∷ rest)

abbrev pub after_result : List SqlType → Path → ℕ → Choices → SqlType → SqlType → Result (List BranchType) Path
after_result types path i others t r = typed_then (branch_types types path (i + 1) others) (with_branch t r)

abbrev pub after_test : List SqlType → Path → ℕ → Form → Choices → SqlType → Result (List BranchType) Path
after_test types path i result others t = typed_then (form_type types (under (entry path i) key.Then) result) (after_result types path i others t)

pub branches_same : (t r : SqlType) (rest bs : List BranchType) → with_branch t r rest ≡ Ok bs → (record { test = t; result = r } ∷ rest) ≡ bs
branches_same t r rest bs e = cc

mutual
  pub value_gives : (types : List SqlType) (row : List Value) → fits_row types row ≡ true → (path : Path) (form : Form) (k : SqlType) → form_type types path form ≡ Ok k → GivesType k (value_of types form row)
  value_gives types row f path (column n) k e = cell_fits types row n k f (found_ok (slice_get types n) path k e)
  value_gives types row f path (literal kind value) k e =
      let typed = chosen_ok (is_value_of kind value) kind k (under path key.Lit) e in
      subst (λ (t : SqlType). fits t value ≡ true) typed.1 (literal_fits kind value typed.0)
  value_gives types row f path (null kind) k e = null_fits k
  value_gives types row f path (call name args) k e =
      typed_then_ok (form_types types (under path key.Args) 0 args) (call_row path name) k (GivesType k (value_of types (call name args) row)) e
      (λ kinds h g.
      let typed = chosen_ok (takes_types name kinds) (type_of_call name kinds) k path g in
      let own : kinds_of types args ≡ kinds = kinds_are types (under path key.Args) 0 args kinds h in
      let P : List SqlType → Type 0 = λ ks. GivesType k (call_of name ks (values_of types args row)) in
      subst P (sym own) (subst (λ (t : SqlType). GivesType t (call_of name kinds (values_of types args row))) typed.1
      (call_gives name kinds (values_of types args row) typed.0 (args_give types row f (under path key.Args) 0 args kinds h))))
  value_gives types row f path (cast arg kind) k e =
      typed_then_ok (form_type types (under path key.Cast) arg) (λ from. cast_row path from kind) k (GivesType k (value_of types (cast arg kind) row)) e
      (λ from h g.
      let typed = chosen_ok (can_cast from kind) kind k path g in
      let own : kind_of types arg ≡ from = kind_is types (under path key.Cast) arg from h in
      let P : SqlType → Type 0 = λ t. GivesType k (and_then (value_of types arg row) (cast_of t kind)) in
      subst P (sym own) (subst (λ (t : SqlType). GivesType t (and_then (value_of types arg row) (cast_of from kind))) typed.1
      (then_gives from kind (value_of types arg row) (cast_of from kind) (value_gives types row f (under path key.Cast) arg from h) (λ v v_fits. cast_fits from kind v v_fits typed.0))))
  value_gives types row f path (choice branches other) k e =
      typed_then_ok (branch_types types (under path key.Case) 0 branches) (λ bs. typed_then (form_type types (under path key.Else) other) (case_row path bs)) k (GivesType k (value_of types (choice branches other) row)) e
      (λ bs h g. typed_then_ok (form_type types (under path key.Else) other) (case_row path bs) k (GivesType k (value_of types (choice branches other) row)) g
      (λ o h2 g2.
      let typed = chosen_ok (list_all (fits_branch o) bs) o k path g2 in
      subst (λ (t : SqlType). GivesType t (value_of types (choice branches other) row)) typed.1
      (case_gives o (branches_of types branches row) (value_of types other row) (chosen_of (branches_of types branches row)) refl
      (choice_gives types row f (under path key.Case) 0 branches bs h o typed.0) (value_gives types row f (under path key.Else) other o h2))))

  args_give : (types : List SqlType) (row : List Value) → fits_row types row ≡ true → (path : Path) (i : ℕ) (forms : Forms) (kinds : List SqlType) → form_types types path i forms ≡ Ok kinds → AllGive kinds (values_of types forms row)
  args_give types row f path i none kinds e = subst (λ (ks : List SqlType). AllGive ks []) (ok_same [] kinds e) tt
  args_give types row f path i (more form forms) kinds e =
      typed_then_ok (form_type types (entry path i) form) (λ kind. typed_then (form_types types path (i + 1) forms) (λ rest. Ok (kind ∷ rest))) kinds (AllGive kinds (values_of types (more form forms) row)) e
      (λ kind h g. typed_then_ok (form_types types path (i + 1) forms) (λ rest. Ok (kind ∷ rest)) kinds (AllGive kinds (values_of types (more form forms) row)) g
      (λ rest h2 g2. subst (λ (ks : List SqlType). AllGive ks (values_of types (more form forms) row)) (ok_same (kind ∷ rest) kinds g2)
      (value_gives types row f (entry path i) form kind h, args_give types row f path (i + 1) forms rest h2)))

  choice_gives : (types : List SqlType) (row : List Value) → fits_row types row ≡ true → (path : Path) (i : ℕ) (branches : Choices) (bs : List BranchType) → branch_types types path i branches ≡ Ok bs → (o : SqlType) → list_all (fits_branch o) bs ≡ true → GivesChoice o (chosen_of (branches_of types branches row))
  choice_gives types row f path i last bs e o all = tt
  choice_gives types row f path i (branch test result others) bs e o all =
      typed_then_ok (form_type types (under (entry path i) key.When) test) (after_test types path i result others) bs (GivesChoice o (chosen_of (branches_of types (branch test result others) row))) e
      (λ t h g. typed_then_ok (form_type types (under (entry path i) key.Then) result) (after_result types path i others t) bs (GivesChoice o (chosen_of (branches_of types (branch test result others) row))) g
      (λ r h2 g2. typed_then_ok (branch_types types path (i + 1) others) (with_branch t r) bs (GivesChoice o (chosen_of (branches_of types (branch test result others) row))) g2
      (λ rest h3 g3.
      let fit = both_true (is_boolean t && same_type r o) (list_all (fits_branch o) rest) (subst (λ (xs : List BranchType). list_all (fits_branch o) xs ≡ true) (sym (branches_same t r rest bs g3)) all) in
      let same : r ≡ o = same_type_is r o (both_true (is_boolean t) (same_type r o) fit.0).1 in
      decided_gives o (value_of types test row) (value_of types result row) (chosen_of (branches_of types others row))
      (subst (λ (u : SqlType). GivesType u (value_of types result row)) same (value_gives types row f (under (entry path i) key.Then) result r h2))
      (choice_gives types row f path (i + 1) others rest h3 o fit.1))))
