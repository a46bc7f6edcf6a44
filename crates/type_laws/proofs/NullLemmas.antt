-- Where no argument of a call in a typed form is NULL, neither is the call; and so of a cast.
use Rattle.std.proofs.Common.{◌≡◌, List, [], ◌∷◌, Bool, true, false, if◌then◌else◌, refl, sym, ap, ◌∙◌, subst}
use Rattle.std.specs.Prelude.{◌≢◌, Result, Ok, Err, ◌&&◌, ◌||◌}
use Rattle.std.specs.List.{list_any}
use Rattle.json_paths.specs.declared.key.Key.TheVariants as key
use Rattle.sql_values.specs.declared.types.SqlType.{SqlType}
use Rattle.sql_values.specs.declared.value.Value.{Value}
use Rattle.sql_values.specs.declared.value.Value.TheVariants.{Null, Boolean}
use Rattle.sql_values.specs.declared.fail.Fail.{Fail}
use Rattle.sql_values.specs.Types.{has_type, row_has_types}
use Rattle.sql_functions.specs.declared.name.CallName.{CallName}
use Rattle.sql_functions.specs.declared.name.CallName.TheVariants.{And, Or, Coalesce}
use Rattle.sql_functions.specs.Outcomes.{Outcome, and_then}
use Rattle.sql_functions.specs.Truth.{is_false, is_null, is_true}
use Rattle.sql_functions.specs.Casts.{cast_of}
use Rattle.sql_functions.specs.Calls.{binary_of, unary_of}
use Rattle.sql_functions.specs.CallTypes.{are_several, can_cast, takes_two, takes_types}
use Rattle.sql_exprs.specs.Forms.{Form, Forms, call, cast}
use Rattle.sql_exprs.specs.Rows.{all_of, any_of, call_of, coalesce_of, evaluated, over, with_value}
use Rattle.sql_exprs.specs.Meaning.{kind_of, kinds_of, type_of_call, value_of, values_of}
use Rattle.sql_exprs.specs.Typing.{Path, call_row, cast_row, form_type, form_types, under}
use Rattle.sql_exprs.proofs.TypingLemmas.{chosen_ok, kind_is, kinds_are, typed_then_ok}
use Rattle.type_laws.specs.Keeps.{ArgsCastToTypes, CastsToTypes, KeepsType, NoneIsNull}
use Rattle.type_laws.proofs.FormLemmas.{AllKeep, args_keep, value_keeps}
use Rattle.type_laws.proofs.ValueLemmas.{binary_gives_value, cast_gives_value, ok_gives, unary_gives_value}

not_null : (v : Value) → (let outcome : Outcome = Ok v in outcome ≢ Ok Null) → v ≢ Null
not_null v h e = h (ap (λ (x : Value). Ok x) e)

then_gives : (o : Outcome) (next : Value → Outcome) → o ≢ Ok Null → ((v : Value) → o ≡ Ok v → v ≢ Null → next v ≢ Ok Null) → and_then o next ≢ Ok Null
then_gives (Ok v) next h each = each v refl (not_null v h)
then_gives (Err fail) next h each = h

kept : (k : SqlType) (o : Outcome) (v : Value) → KeepsType k o → o ≡ Ok v → has_type k v ≡ true
kept k o v h e = subst (KeepsType k) e h

present : (v : Value) → v ≢ Null → is_null v ≡ false
present Null n = absurd (n refl)
present v n = refl

-- AND and OR
truth_gives : (a b c d : Bool) → b ≡ false → (if a then Boolean c else if b then Null else Boolean d) ≢ Null
truth_gives true b c d e x = cc
truth_gives false false c d e x = cc
truth_gives false true c d e x = cc

ok_list : (r : Result (List Value) Fail) (vs ws : List Value) → r ≡ Ok vs → r ≡ Ok ws → vs ≡ ws
ok_list r vs ws d e = cc

none_first : (v : Value) (os : List Outcome) (vs : List Value) → v ≢ Null → (b : Bool) (r : Result (List Value) Fail)
    → ((ws : List Value) → r ≡ Ok ws → list_any is_null ws ≡ false) → (if b then Ok (v ∷ []) else with_value v r) ≡ Ok vs → list_any is_null vs ≡ false
none_first v os vs n true r rest e =
    ap (list_any is_null) (ok_list (Ok vs) vs (v ∷ []) refl (sym e)) ∙ ap (λ (b : Bool). b || false) (present v n)
none_first v os vs n false (Err fail) rest e = cc
none_first v os vs n false (Ok ws) rest e =
    ap (list_any is_null) (ok_list (Ok vs) vs (v ∷ ws) refl (sym e))
    ∙ ap (λ (b : Bool). b || list_any is_null ws) (present v n) ∙ rest ws refl

none_null : (decides : Value → Bool) (os : List Outcome) (vs : List Value) → NoneIsNull os → evaluated decides os ≡ Ok vs → list_any is_null vs ≡ false
none_null decides [] vs n e = ap (list_any is_null) (ok_list (Ok vs) vs [] refl (sym e))
none_null decides (Err fail ∷ os) vs n e = cc
none_null decides (Ok v ∷ os) vs n e =
    none_first v os vs (not_null v n.0) (decides v) (evaluated decides os) (λ ws is. none_null decides os ws n.1 is) e

over_gives : (table : List Value → Value) (r : Result (List Value) Fail) → ((vs : List Value) → r ≡ Ok vs → table vs ≢ Null) → over table r ≢ Ok Null
over_gives table (Ok vs) each e = ok_gives (table vs) (each vs refl) e
over_gives table (Err fail) each e = cc

all_gives : (os : List Outcome) → NoneIsNull os → over all_of (evaluated is_false os) ≢ Ok Null
all_gives os n = over_gives all_of (evaluated is_false os) (λ vs e. truth_gives (list_any is_false vs) (list_any is_null vs) false true (none_null is_false os vs n e))

any_gives : (os : List Outcome) → NoneIsNull os → over any_of (evaluated is_true os) ≢ Ok Null
any_gives os n = over_gives any_of (evaluated is_true os) (λ vs e. truth_gives (list_any is_true vs) (list_any is_null vs) true false (none_null is_true os vs n e))

first_gives : (v : Value) (rest : Outcome) → v ≢ Null → (if is_null v then rest else Ok v) ≢ Ok Null
first_gives Null rest n = absurd (n refl)
first_gives v rest n = ok_gives v n

two_take : (a b : Bool) → (a || (b && false)) ≡ true → a ≡ true
two_take true b h = refl
two_take false true h = cc
two_take false false h = cc

none_true : false ≡ true → ⊥
none_true h = cc

none_take : (b : Bool) → (b && false) ≡ true → ⊥
none_take true h = cc
none_take false h = cc

call_gives : (name : CallName) (ks : List SqlType) (os : List Outcome) → takes_types name ks ≡ true → AllKeep ks os → NoneIsNull os → call_of name ks os ≢ Ok Null
call_gives And ks os t h n = all_gives os n
call_gives Or ks os t h n = any_gives os n
call_gives Coalesce [] os t h n = absurd (none_true t)
call_gives Coalesce (k ∷ ks) [] t h n = absurd h
call_gives Coalesce (k ∷ ks) (o ∷ os) t h n = then_gives o (λ v. if is_null v then coalesce_of os else Ok v) n.0 (λ v e nn. first_gives v (coalesce_of os) nn)
call_gives name [] os t h n = absurd (none_true t)
call_gives name (k ∷ ks) [] t h n = absurd h
call_gives name (k ∷ []) (o ∷ []) t h n = then_gives o (unary_of name k) n.0 (λ v e nn. unary_gives_value name k v t (kept k o v h.0 e) nn)
call_gives name (k ∷ []) (o ∷ p ∷ os) t h n = absurd h.1
call_gives name (k ∷ l ∷ ks) (o ∷ []) t h n = absurd h.1
call_gives name (k ∷ l ∷ []) (o ∷ p ∷ []) t h n =
    then_gives o (λ v. and_then p (binary_of name k l v)) n.0
    (λ v e nn. then_gives p (binary_of name k l v) n.1.0
    (λ w f mm. binary_gives_value name k l v w (two_take (takes_two name k l) (are_several (k ∷ l ∷ [])) t) (kept k o v h.0 e) (kept l p w h.1.0 f) nn mm))
call_gives name (k ∷ l ∷ []) (o ∷ p ∷ q ∷ os) t h n = absurd h.1.1
call_gives name (k ∷ l ∷ m ∷ ks) (o ∷ p ∷ os) t h n = absurd (none_take (are_several (k ∷ l ∷ m ∷ ks)) t)

pub call_in_form_gives : (types : List SqlType) (row : List Value) → row_has_types types row ≡ true → (path : Path) (name : CallName) (args : Forms) (k : SqlType) → ArgsCastToTypes args
    → form_type types path (call name args) ≡ Ok k → NoneIsNull (values_of types args row) → value_of types (call name args) row ≢ Ok Null
call_in_form_gives types row f path name args k c e n =
    typed_then_ok (form_types types (under path key.Args) 0 args) (call_row path name) k (value_of types (call name args) row ≢ Ok Null) e
    (λ kinds h g.
    let typed = chosen_ok (takes_types name kinds) (type_of_call name kinds) k path g in
    let own : kinds_of types args ≡ kinds = kinds_are types (under path key.Args) 0 args kinds h in
    subst (λ (ks : List SqlType). call_of name ks (values_of types args row) ≢ Ok Null) (sym own)
    (call_gives name kinds (values_of types args row) typed.0 (args_keep types row f (under path key.Args) 0 args kinds c h) n))

pub cast_in_form_gives : (types : List SqlType) (row : List Value) → row_has_types types row ≡ true → (path : Path) (arg : Form) (kind k : SqlType) → CastsToTypes (cast arg kind)
    → form_type types path (cast arg kind) ≡ Ok k → value_of types arg row ≢ Ok Null → value_of types (cast arg kind) row ≢ Ok Null
cast_in_form_gives types row f path arg kind k c e n =
    typed_then_ok (form_type types (under path key.Cast) arg) (λ from. cast_row path from kind) k (value_of types (cast arg kind) row ≢ Ok Null) e
    (λ from h g.
    let typed = chosen_ok (can_cast from kind) kind k path g in
    let own : kind_of types arg ≡ from = kind_is types (under path key.Cast) arg from h in
    subst (λ (t : SqlType). and_then (value_of types arg row) (cast_of t kind) ≢ Ok Null) (sym own)
    (then_gives (value_of types arg row) (cast_of from kind) n
    (λ v e2 nn. cast_gives_value from kind v c.0 typed.0 (kept from (value_of types arg row) v (value_keeps types row f (under path key.Cast) arg from c.1 h) e2) nn)))
