-- What is known of the type of a form: it is the form's kind, and any type that shows in the form.
use Rattle.std.proofs.Common.{◌≡◌, ℕ, ◌+◌, List, ◌∷◌, Bool, true, false, if◌then◌else◌, Option, Some, None, refl, ap, ◌∙◌}
use Rattle.std.specs.Prelude.{Result, Ok, Err, slice_get, unwrap_or}
use Rattle.std.specs.Option.{ok_or}
use Rattle.std.specs.List.{list_all}
use Rattle.json_paths.specs.declared.key.Key.TheVariants as key
use Rattle.sql_values.specs.declared.types.SqlType.{SqlType}
use Rattle.sql_values.specs.declared.types.SqlType.TheVariants.{Boolean}
use Rattle.sql_functions.specs.CallTypes.{can_cast, takes_types}
use Rattle.sql_exprs.specs.declared.typing.BranchType.{BranchType}
use Rattle.sql_exprs.specs.Forms.{Form, column, literal, null, call, cast, choice, Forms, none, more}
use Rattle.sql_exprs.specs.Literals.{is_value_of}
use Rattle.sql_exprs.specs.Meaning.{kind_of, kinds_of, type_of_call}
use Rattle.sql_exprs.specs.Typing.{Path, under, entry, typed_then, call_row, cast_row, case_row, fits_branch, form_type, form_types, branch_types}

-- a step after another was typed: so the other was typed too
pub typed_then_ok : {A B : Type 0} (r : Result A Path) (f : A → Result B Path) (y : B) (P : Type 0) → typed_then r f ≡ Ok y → ((x : A) → r ≡ Ok x → f x ≡ Ok y → P) → P
typed_then_ok (Ok x) f y P e next = next x refl e
typed_then_ok (Err path) f y P e next = cc

pub chosen_ok : (b : Bool) (x y : SqlType) (path : Path) → (if b then Ok x else Err path) ≡ Ok y → (b ≡ true) × (x ≡ y)
chosen_ok true x y path e = (refl, cc)
chosen_ok false x y path e = cc

pub found_ok : (o : Option SqlType) (path : Path) (k : SqlType) → ok_or o path ≡ Ok k → o ≡ Some k
found_ok (Some x) path k e = cc
found_ok None path k e = cc

mutual
  pub kind_is : (columns : List SqlType) (path : Path) (form : Form) (k : SqlType) → form_type columns path form ≡ Ok k → kind_of columns form ≡ k
  kind_is columns path (column n) k e = ap (λ o. unwrap_or o Boolean) (found_ok (slice_get columns n) path k e)
  kind_is columns path (literal kind value) k e = (chosen_ok (is_value_of kind value) kind k (under path key.Lit) e).1
  kind_is columns path (null kind) k e = cc
  kind_is columns path (call name args) k e =
      typed_then_ok (form_types columns (under path key.Args) 0 args) (call_row path name) k _ e
      (λ kinds h g. ap (type_of_call name) (kinds_are columns (under path key.Args) 0 args kinds h) ∙ (chosen_ok (takes_types name kinds) (type_of_call name kinds) k path g).1)
  kind_is columns path (cast arg kind) k e =
      typed_then_ok (form_type columns (under path key.Cast) arg) (λ from. cast_row path from kind) k _ e
      (λ from h g. (chosen_ok (can_cast from kind) kind k path g).1)
  kind_is columns path (choice branches other) k e =
      typed_then_ok (branch_types columns (under path key.Case) 0 branches) (λ bs. typed_then (form_type columns (under path key.Else) other) (case_row path bs)) k _ e
      (λ bs h g. typed_then_ok (form_type columns (under path key.Else) other) (case_row path bs) k _ g
      (λ o h2 g2. kind_is columns (under path key.Else) other o h2 ∙ (chosen_ok (list_all (fits_branch o) bs) o k path g2).1))

  pub kinds_are : (columns : List SqlType) (path : Path) (i : ℕ) (forms : Forms) (kinds : List SqlType) → form_types columns path i forms ≡ Ok kinds → kinds_of columns forms ≡ kinds
  kinds_are columns path i none kinds e = cc
  kinds_are columns path i (more form forms) kinds e =
      typed_then_ok (form_type columns (entry path i) form) (λ kind. typed_then (form_types columns path (i + 1) forms) (λ rest. Ok (kind ∷ rest))) kinds _ e
      (λ kind h g. typed_then_ok (form_types columns path (i + 1) forms) (λ rest. Ok (kind ∷ rest)) kinds _ g
      (λ rest h2 g2. let a = kind_is columns (entry path i) form kind h in let b = kinds_are columns path (i + 1) forms rest h2 in cc))

-- the types of a branch, and then those of the branches behind it
pub both_then : (r s : Result SqlType Path) (rest : Result (List BranchType) Path) → typed_then r (λ t. typed_then s (λ u. typed_then rest (λ bs. Ok (record { test = t; result = u } ∷ bs)))) ≡ typed_then (typed_then r (λ t. typed_then s (λ u. Ok (record { test = t; result = u })))) (λ b. typed_then rest (λ bs. Ok (b ∷ bs)))
both_then (Ok t) (Ok u) rest = refl
both_then (Ok t) (Err path) rest = refl
both_then (Err path) s rest = refl
