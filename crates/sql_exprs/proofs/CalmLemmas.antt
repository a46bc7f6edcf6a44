-- A typed form in which nothing can fail has a value on each row that fits the columns' types.
use Rattle.std.proofs.Common.{◌≡◌, ℕ, ◌+◌, List, [], ◌∷◌, Bool, true, false, not, if◌then◌else◌, Option, Some, None, refl, sym, subst, ◌∙◌}
use Rattle.std.specs.Prelude.{Result, Ok, Err, is_ok, ◌&&◌}
use Rattle.json_paths.specs.declared.key.Key.TheVariants as key
use Rattle.sql_values.specs.declared.types.SqlType.{SqlType}
use Rattle.sql_values.specs.declared.types.SqlType.TheVariants as type
use Rattle.sql_values.specs.declared.value.Value.{Value}
use Rattle.sql_values.specs.declared.fail.Fail.{Fail}
use Rattle.sql_values.specs.Blocks.{fits}
use Rattle.sql_values.specs.ColumnRows.{fits_row}
use Rattle.sql_functions.specs.declared.name.CallName.{CallName}
use Rattle.sql_functions.specs.declared.name.CallName.TheVariants as name
use Rattle.sql_functions.specs.Outcomes.{Outcome, GivesType, and_then}
use Rattle.sql_functions.specs.Truth.{is_false, is_null, is_true}
use Rattle.sql_functions.specs.Casts.{cast_of}
use Rattle.sql_functions.specs.Calls.{binary_of, unary_of}
use Rattle.sql_functions.proofs.TypeLemmas.{both_true, same_type_is}
use Rattle.sql_functions.proofs.CalmCastLemmas.{cast_to_own_type, cast_to_varchar}
use Rattle.sql_exprs.specs.declared.typing.BranchType.{BranchType}
use Rattle.sql_exprs.specs.Forms.{Form, column, literal, null, call, cast, choice, Forms, none, more, Choices, last, branch}
use Rattle.sql_exprs.specs.Rows.{all_of, any_of, call_of, case_of, chosen_of, coalesce_of, decided, evaluated, over, strict_of, with_value}
use Rattle.sql_exprs.specs.Meaning.{branches_of, kind_of, kinds_of, value_of, values_of}
use Rattle.sql_exprs.specs.Typing.{Path, branch_types, call_row, case_row, cast_row, entry, form_type, form_types, typed_then, under}
use Rattle.sql_exprs.specs.Calm.{are_calm, branches_are_calm, can_fail, is_calm, is_calm_cast, shown_type}
use Rattle.sql_exprs.proofs.TypingLemmas.{kind_is, typed_then_ok}
use Rattle.sql_exprs.proofs.FitLemmas.{after_result, after_test, value_gives, with_branch}
use Rattle.sql_exprs.proofs.ShownLemmas.{shown_is}

-- each outcome is a value
abbrev AllOk : List Outcome → Type 0
AllOk [] = Unit {0}
AllOk (o ∷ os) = (is_ok o ≡ true) × AllOk os

then_ok : (o : Outcome) (next : Value → Outcome) → is_ok o ≡ true → ((v : Value) → o ≡ Ok v → is_ok (next v) ≡ true) → is_ok (and_then o next) ≡ true
then_ok (Ok v) next h each = each v refl
then_ok (Err fail) next h each = cc

not_true : (b : Bool) → not b ≡ true → b ≡ false
not_true true h = cc
not_true false h = refl

unary_ok : (nm : CallName) (k : SqlType) (v : Value) → can_fail nm ≡ false → is_ok (unary_of nm k v) ≡ true
unary_ok name.Neg k v h = cc
unary_ok nm k v h = refl

binary_ok : (nm : CallName) (k l : SqlType) (v w : Value) → can_fail nm ≡ false → is_ok (binary_of nm k l v w) ≡ true
binary_ok name.Add k l v w h = cc
binary_ok name.Subtract k l v w h = cc
binary_ok name.Multiply k l v w h = cc
binary_ok name.Divide k l v w h = cc
binary_ok name.Modulo k l v w h = cc
binary_ok name.Concat k l v w h = cc
binary_ok name.AddDays k l v w h = cc
binary_ok nm k l v w h = refl

strict_ok : (nm : CallName) (ks : List SqlType) (os : List Outcome) → can_fail nm ≡ false → AllOk os → is_ok (strict_of nm ks os) ≡ true
strict_ok nm [] os c h = refl
strict_ok nm (k ∷ []) [] c h = refl
strict_ok nm (k ∷ []) (o ∷ []) c h = then_ok o (unary_of nm k) h.0 (λ v e. unary_ok nm k v c)
strict_ok nm (k ∷ []) (o ∷ p ∷ os) c h = refl
strict_ok nm (k ∷ l ∷ []) [] c h = refl
strict_ok nm (k ∷ l ∷ []) (o ∷ []) c h = refl
strict_ok nm (k ∷ l ∷ []) (o ∷ p ∷ []) c h =
    then_ok o (λ v. and_then p (binary_of nm k l v)) h.0 (λ v e. then_ok p (binary_of nm k l v) h.1.0 (λ w g. binary_ok nm k l v w c))
strict_ok nm (k ∷ l ∷ []) (o ∷ p ∷ q ∷ os) c h = refl
strict_ok nm (k ∷ l ∷ m ∷ ks) os c h = refl

values_ok : (b : Bool) (v : Value) (r : Result (List Value) Fail) → is_ok r ≡ true → is_ok (if b then Ok (v ∷ []) else with_value v r) ≡ true
values_ok true v r h = refl
values_ok false v (Ok vs) h = refl
values_ok false v (Err fail) h = cc

evaluated_ok : (decides : Value → Bool) (os : List Outcome) → AllOk os → is_ok (evaluated decides os) ≡ true
evaluated_ok decides [] h = refl
evaluated_ok decides (Ok v ∷ os) h = values_ok (decides v) v (evaluated decides os) (evaluated_ok decides os h.1)
evaluated_ok decides (Err fail ∷ os) h = let g : false ≡ true = h.0 in cc

over_ok : (table : List Value → Value) (r : Result (List Value) Fail) → is_ok r ≡ true → is_ok (over table r) ≡ true
over_ok table (Ok vs) h = refl
over_ok table (Err fail) h = cc

if_ok : (b : Bool) (o : Outcome) (v : Value) → is_ok o ≡ true → is_ok (if b then o else Ok v) ≡ true
if_ok true o v h = h
if_ok false o v h = refl

coalesce_ok : (os : List Outcome) → AllOk os → is_ok (coalesce_of os) ≡ true
coalesce_ok [] h = refl
coalesce_ok (o ∷ os) h = then_ok o (λ v. if is_null v then coalesce_of os else Ok v) h.0 (λ v e. if_ok (is_null v) (coalesce_of os) v (coalesce_ok os h.1))

call_ok : (nm : CallName) (ks : List SqlType) (os : List Outcome) → can_fail nm ≡ false → AllOk os → is_ok (call_of nm ks os) ≡ true
call_ok name.And ks os c h = over_ok all_of (evaluated is_false os) (evaluated_ok is_false os h)
call_ok name.Or ks os c h = over_ok any_of (evaluated is_true os) (evaluated_ok is_true os h)
call_ok name.Coalesce ks os c h = coalesce_ok os h
call_ok nm ks os c h = strict_ok nm ks os c h

-- a choice, where there is one, is a value
abbrev ChoiceOk : Option Outcome → Type 0
ChoiceOk None = Unit {0}
ChoiceOk (Some o) = is_ok o ≡ true

chosen_either : (b : Bool) (o : Outcome) (rest : Option Outcome) → is_ok o ≡ true → ChoiceOk rest → ChoiceOk (if b then Some o else rest)
chosen_either true o rest g h = g
chosen_either false o rest g h = h

decided_ok : (test result : Outcome) (rest : Option Outcome) → is_ok test ≡ true → is_ok result ≡ true → ChoiceOk rest → ChoiceOk (decided test result rest)
decided_ok (Ok v) result rest t g h = chosen_either (is_true v) result rest g h
decided_ok (Err fail) result rest t g h = t

case_ok : (bs : List (Outcome × Outcome)) (other : Outcome) (chosen : Option Outcome) → chosen_of bs ≡ chosen → ChoiceOk chosen → is_ok other ≡ true → is_ok (case_of bs other) ≡ true
case_ok bs other (Some o) e g h = rw e g
case_ok bs other None e g h = rw e h

cast_ok : (shown : Option SqlType) (from to : SqlType) (v : Value) → ((s : SqlType) → shown ≡ Some s → s ≡ from) → is_calm_cast shown to ≡ true → fits from v ≡ true → is_ok (cast_of from to v) ≡ true
cast_ok shown from type.Varchar v each c h = cast_to_varchar from v
cast_ok None from to v each c h = cc
cast_ok (Some s) from to v each c h = subst (λ (t : SqlType). is_ok (cast_of from t v) ≡ true) (sym (each s refl) ∙ same_type_is s to c) (cast_to_own_type from v h)

given : (k : SqlType) (o : Outcome) (v : Value) → GivesType k o → o ≡ Ok v → fits k v ≡ true
given k o v g e = subst (λ (p : Outcome). GivesType k p) e g

mutual
  pub calm_value : (types : List SqlType) (row : List Value) → fits_row types row ≡ true → (path : Path) (form : Form) (k : SqlType) → form_type types path form ≡ Ok k → is_calm types form ≡ true → is_ok (value_of types form row) ≡ true
  calm_value types row f path (column n) k e c = refl
  calm_value types row f path (literal kind value) k e c = refl
  calm_value types row f path (null kind) k e c = refl
  calm_value types row f path (call nm args) k e c =
      let calm = both_true (not (can_fail nm)) (are_calm types args) c in
      typed_then_ok (form_types types (under path key.Args) 0 args) (call_row path nm) k (is_ok (value_of types (call nm args) row) ≡ true) e
      (λ kinds h g. call_ok nm (kinds_of types args) (values_of types args row) (not_true (can_fail nm) calm.0) (calm_args types row f (under path key.Args) 0 args kinds h calm.1))
  calm_value types row f path (cast arg kind) k e c =
      let calm = both_true (is_calm_cast (shown_type types arg) kind) (is_calm types arg) c in
      typed_then_ok (form_type types (under path key.Cast) arg) (λ from. cast_row path from kind) k (is_ok (value_of types (cast arg kind) row) ≡ true) e
      (λ from h g.
      let own : kind_of types arg ≡ from = kind_is types (under path key.Cast) arg from h in
      let P : SqlType → Type 0 = λ t. is_ok (and_then (value_of types arg row) (cast_of t kind)) ≡ true in
      subst P (sym own) (then_ok (value_of types arg row) (cast_of from kind) (calm_value types row f (under path key.Cast) arg from h calm.1)
      (λ v e2. cast_ok (shown_type types arg) from kind v (λ s shows. shown_is types (under path key.Cast) arg from s h shows) calm.0
      (given from (value_of types arg row) v (value_gives types row f (under path key.Cast) arg from h) e2))))
  calm_value types row f path (choice branches other) k e c =
      let calm = both_true (branches_are_calm types branches) (is_calm types other) c in
      typed_then_ok (branch_types types (under path key.Case) 0 branches) (λ bs. typed_then (form_type types (under path key.Else) other) (case_row path bs)) k (is_ok (value_of types (choice branches other) row) ≡ true) e
      (λ bs h g. typed_then_ok (form_type types (under path key.Else) other) (case_row path bs) k (is_ok (value_of types (choice branches other) row) ≡ true) g
      (λ o h2 g2. case_ok (branches_of types branches row) (value_of types other row) (chosen_of (branches_of types branches row)) refl
      (calm_choice types row f (under path key.Case) 0 branches bs h calm.0) (calm_value types row f (under path key.Else) other o h2 calm.1)))

  calm_args : (types : List SqlType) (row : List Value) → fits_row types row ≡ true → (path : Path) (i : ℕ) (forms : Forms) (kinds : List SqlType) → form_types types path i forms ≡ Ok kinds → are_calm types forms ≡ true → AllOk (values_of types forms row)
  calm_args types row f path i none kinds e c = tt
  calm_args types row f path i (more form forms) kinds e c =
      let calm = both_true (is_calm types form) (are_calm types forms) c in
      typed_then_ok (form_type types (entry path i) form) (λ kind. typed_then (form_types types path (i + 1) forms) (λ rest. Ok (kind ∷ rest))) kinds (AllOk (values_of types (more form forms) row)) e
      (λ kind h g. typed_then_ok (form_types types path (i + 1) forms) (λ rest. Ok (kind ∷ rest)) kinds (AllOk (values_of types (more form forms) row)) g
      (λ rest h2 g2. (calm_value types row f (entry path i) form kind h calm.0, calm_args types row f path (i + 1) forms rest h2 calm.1)))

  calm_choice : (types : List SqlType) (row : List Value) → fits_row types row ≡ true → (path : Path) (i : ℕ) (branches : Choices) (bs : List BranchType) → branch_types types path i branches ≡ Ok bs → branches_are_calm types branches ≡ true → ChoiceOk (chosen_of (branches_of types branches row))
  calm_choice types row f path i last bs e c = tt
  calm_choice types row f path i (branch test result others) bs e c =
      let calm = both_true (is_calm types test && is_calm types result) (branches_are_calm types others) c in
      let both = both_true (is_calm types test) (is_calm types result) calm.0 in
      let P : Type 0 = ChoiceOk (chosen_of (branches_of types (branch test result others) row)) in
      typed_then_ok (form_type types (under (entry path i) key.When) test) (after_test types path i result others) bs P e
      (λ t h g. typed_then_ok (form_type types (under (entry path i) key.Then) result) (after_result types path i others t) bs P g
      (λ r h2 g2. typed_then_ok (branch_types types path (i + 1) others) (with_branch t r) bs P g2
      (λ rest h3 g3. decided_ok (value_of types test row) (value_of types result row) (chosen_of (branches_of types others row))
      (calm_value types row f (under (entry path i) key.When) test t h both.0) (calm_value types row f (under (entry path i) key.Then) result r h2 both.1)
      (calm_choice types row f path (i + 1) others rest h3 calm.1))))
