-- A type that shows in a typed form is the type of the form.
use Rattle.std.proofs.Common.{◌≡◌, ℕ, ◌+◌, List, ◌∷◌, true, Option, Some, None, sym, subst, ◌∙◌}
use Rattle.std.specs.Prelude.{Ok, ◌&&◌, slice_get}
use Rattle.std.specs.Option.{option_or}
use Rattle.std.specs.List.{list_all}
use Rattle.json_paths.specs.declared.key.Key.TheVariants as key
use Rattle.sql_values.specs.declared.types.SqlType.{SqlType}
use Rattle.sql_values.specs.declared.types.SqlType.TheVariants as type
use Rattle.sql_functions.specs.declared.name.CallName.{CallName}
use Rattle.sql_functions.specs.declared.name.CallName.TheVariants as name
use Rattle.sql_functions.specs.CallTypes.{call_type, can_cast, is_boolean, same_type, takes_types, type_at}
use Rattle.sql_functions.proofs.TypeLemmas.{both_true, coalesce_takes, same_type_is}
use Rattle.sql_exprs.specs.declared.typing.BranchType.{BranchType}
use Rattle.sql_exprs.specs.Forms.{Form, column, literal, null, call, cast, choice, Forms, none, more, Choices, last, branch}
use Rattle.sql_exprs.specs.Literals.{is_value_of}
use Rattle.sql_exprs.specs.Meaning.{type_of_call}
use Rattle.sql_exprs.specs.Typing.{Path, branch_types, call_row, case_row, cast_row, entry, fits_branch, form_type, form_types, typed_then, under}
use Rattle.sql_exprs.specs.Calm.{shown_by_call, shown_in_args, shown_in_results, shown_type}
use Rattle.sql_exprs.proofs.TypingLemmas.{chosen_ok, found_ok, typed_then_ok}
use Rattle.sql_exprs.proofs.FitLemmas.{after_result, after_test, branches_same, ok_same, with_branch}

some_same : (k l : SqlType) → (let o : Option SqlType = Some k in o) ≡ Some l → k ≡ l
some_same k l e = cc

-- the first of two that shows
either_shown : (o p : Option SqlType) (s : SqlType) (P : Type 0) → option_or o p ≡ Some s → (o ≡ Some s → P) → (p ≡ Some s → P) → P
either_shown (Some k) p s P e first second = first e
either_shown None p s P e first second = second e

both_found : (o : Option SqlType) (s k : SqlType) → o ≡ Some s → o ≡ Some k → s ≡ k
both_found o s k e f = cc

shown_of_call : (nm : CallName) (shown : Option SqlType) (kinds : List SqlType) (s : SqlType) → takes_types nm kinds ≡ true
    → (shown ≡ Some s → (t : SqlType) → list_all (same_type t) kinds ≡ true → s ≡ t) → shown_by_call nm shown ≡ Some s → s ≡ type_of_call nm kinds
shown_of_call name.Coalesce shown kinds s t each e = each e (type_at kinds 0) (coalesce_takes kinds t)
shown_of_call name.Add shown kinds s t each e = cc
shown_of_call name.Subtract shown kinds s t each e = cc
shown_of_call name.Multiply shown kinds s t each e = cc
shown_of_call name.Neg shown kinds s t each e = cc
shown_of_call nm shown kinds s t each e = sym (some_same (call_type nm type.Boolean type.Boolean) s e)

mutual
  pub shown_is : (types : List SqlType) (path : Path) (form : Form) (k s : SqlType) → form_type types path form ≡ Ok k → shown_type types form ≡ Some s → s ≡ k
  shown_is types path (column n) k s e shows = both_found (slice_get types n) s k shows (found_ok (slice_get types n) path k e)
  shown_is types path (literal kind value) k s e shows =
      sym (some_same kind s shows) ∙ (chosen_ok (is_value_of kind value) kind k (under path key.Lit) e).1
  shown_is types path (null kind) k s e shows = let a = some_same kind s shows in cc
  shown_is types path (call nm args) k s e shows =
      typed_then_ok (form_types types (under path key.Args) 0 args) (call_row path nm) k (s ≡ k) e
      (λ kinds h g.
      let typed = chosen_ok (takes_types nm kinds) (type_of_call nm kinds) k path g in
      shown_of_call nm (shown_in_args types args) kinds s typed.0 (λ found t same. shown_args types (under path key.Args) 0 args kinds s t h found same) shows ∙ typed.1)
  shown_is types path (cast arg kind) k s e shows =
      typed_then_ok (form_type types (under path key.Cast) arg) (λ from. cast_row path from kind) k (s ≡ k) e
      (λ from h g. sym (some_same kind s shows) ∙ (chosen_ok (can_cast from kind) kind k path g).1)
  shown_is types path (choice branches other) k s e shows =
      typed_then_ok (branch_types types (under path key.Case) 0 branches) (λ bs. typed_then (form_type types (under path key.Else) other) (case_row path bs)) k (s ≡ k) e
      (λ bs h g. typed_then_ok (form_type types (under path key.Else) other) (case_row path bs) k (s ≡ k) g
      (λ o h2 g2.
      let typed = chosen_ok (list_all (fits_branch o) bs) o k path g2 in
      either_shown (shown_type types other) (shown_in_results types branches) s (s ≡ k) shows
      (λ found. shown_is types (under path key.Else) other o s h2 found ∙ typed.1)
      (λ found. shown_results types (under path key.Case) 0 branches bs s o h found typed.0 ∙ typed.1)))

  shown_args : (types : List SqlType) (path : Path) (i : ℕ) (forms : Forms) (kinds : List SqlType) (s t : SqlType) → form_types types path i forms ≡ Ok kinds → shown_in_args types forms ≡ Some s → list_all (same_type t) kinds ≡ true → s ≡ t
  shown_args types path i none kinds s t e shows same = cc
  shown_args types path i (more form forms) kinds s t e shows same =
      typed_then_ok (form_type types (entry path i) form) (λ kind. typed_then (form_types types path (i + 1) forms) (λ rest. Ok (kind ∷ rest))) kinds (s ≡ t) e
      (λ kind h g. typed_then_ok (form_types types path (i + 1) forms) (λ rest. Ok (kind ∷ rest)) kinds (s ≡ t) g
      (λ rest h2 g2.
      let all = both_true (same_type t kind) (list_all (same_type t) rest) (subst (λ (ks : List SqlType). list_all (same_type t) ks ≡ true) (sym (ok_same (kind ∷ rest) kinds g2)) same) in
      either_shown (shown_type types form) (shown_in_args types forms) s (s ≡ t) shows
      (λ found. shown_is types (entry path i) form kind s h found ∙ sym (same_type_is t kind all.0))
      (λ found. shown_args types path (i + 1) forms rest s t h2 found all.1)))

  shown_results : (types : List SqlType) (path : Path) (i : ℕ) (branches : Choices) (bs : List BranchType) (s o : SqlType) → branch_types types path i branches ≡ Ok bs → shown_in_results types branches ≡ Some s → list_all (fits_branch o) bs ≡ true → s ≡ o
  shown_results types path i last bs s o e shows all = cc
  shown_results types path i (branch test result others) bs s o e shows all =
      typed_then_ok (form_type types (under (entry path i) key.When) test) (after_test types path i result others) bs (s ≡ o) e
      (λ t h g. typed_then_ok (form_type types (under (entry path i) key.Then) result) (after_result types path i others t) bs (s ≡ o) g
      (λ r h2 g2. typed_then_ok (branch_types types path (i + 1) others) (with_branch t r) bs (s ≡ o) g2
      (λ rest h3 g3.
      let fit = both_true (is_boolean t && same_type r o) (list_all (fits_branch o) rest) (subst (λ (xs : List BranchType). list_all (fits_branch o) xs ≡ true) (sym (branches_same t r rest bs g3)) all) in
      let same : r ≡ o = same_type_is r o (both_true (is_boolean t) (same_type r o) fit.0).1 in
      either_shown (shown_type types result) (shown_in_results types others) s (s ≡ o) shows
      (λ found. shown_is types (under (entry path i) key.Then) result r s h2 found ∙ same)
      (λ found. shown_results types path (i + 1) others rest s o h3 found fit.1))))
