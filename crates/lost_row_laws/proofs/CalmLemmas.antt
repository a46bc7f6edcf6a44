-- What is calm fails on no row that fits its types, and gives values that fit their own.
use Rattle.std.proofs.Common.{◌≡◌, List, [], ◌∷◌, Bool, true, false, refl, ap, ◌∙◌, map, sym, subst}
use Rattle.std.specs.Prelude.{if◌then◌else◌, is_ok, Ok, Err, Result}
use Rattle.sql_values.specs.declared.types.SqlType.{SqlType}
use Rattle.sql_values.specs.declared.value.Value.{Value}
use Rattle.sql_values.specs.declared.fail.Fail.{Fail}
use Rattle.sql_values.specs.Blocks.{fits}
use Rattle.sql_values.specs.ColumnRows.{fits_row}
use Rattle.sql_functions.specs.Outcomes.{GivesType, Outcome}
use Rattle.sql_functions.specs.Truth.{is_true}
use Rattle.sql_exprs.specs.Calm.{are_calm, is_calm}
use Rattle.sql_exprs.specs.Forms.{Form, forms_of}
use Rattle.sql_exprs.specs.Meaning.{kind_of, value_of}
use Rattle.sql_exprs.proofs.CalmLemmas.{calm_value}
use Rattle.sql_exprs.proofs.FitLemmas.{value_gives}
use Rattle.sql_exprs.proofs.TypingLemmas.{kind_is}
use Rattle.relation_laws.specs.Aggregates.{all_values, with_first}
use Rattle.relation_laws.specs.Verdicts.{drops, is_failure, keeps, verdict_of}
use Rattle.page_processor.specs.Typed.{AllTyped, IsTyped}
use Rattle.plan_trees.specs.Judges.{filter_judge, filtered, project_judge}
use Rattle.plan_trees.specs.Allowed.{Mode, skipping, strict}
use Rattle.lost_row_laws.specs.Sieves.{fits_in}
use Rattle.lost_row_laws.proofs.SameLemmas.{IsQuiet}
use Rattle.lost_row_laws.proofs.SieveLemmas.{and_first, and_second, both}

no_failure : (row : List Value) (o : Outcome) → is_ok o ≡ true → is_failure (filtered row o) ≡ false
no_failure row (Err kind) h = absurd cc
no_failure row (Ok v) h = of (is_true v)
  where
    of : (b : Bool) → is_failure (if b then keeps row else drops) ≡ false
    of true = refl
    of false = refl

pub calm_filter : (types : List SqlType) (row : List Value) (form : Form) → IsTyped types form → fits_row types row ≡ true → is_calm types form ≡ true
    → is_failure (filter_judge types form row) ≡ false
calm_filter types row form typed fit calm =
    no_failure row (value_of types form row) (calm_value types row fit typed.path form typed.kind typed.is calm)

module _ (types : List SqlType) (row : List Value) where
  abbrev value : Form → Outcome
  value form = value_of types form row

  -- the values of expressions, which fit their types
  pub record Values (forms : List Form) : Type 0 where
    pub values : List Value
    pub all : all_values (map value forms) ≡ Ok values
    pub fit : fits_row (map (kind_of types) forms) values ≡ true

  one_more : (form : Form) (forms : List Form) (kind : SqlType) → kind_of types form ≡ kind → Values forms
      → (o : Outcome) → value form ≡ o → is_ok o ≡ true → GivesType kind o → Values (form ∷ forms)
  one_more form forms kind same rest (Err fail) is there gives = absurd cc
  one_more form forms kind same rest (Ok v) is there gives = record {
    values = v ∷ rest.values;
    all = ap (λ (o : Outcome). all_values (o ∷ map value forms)) is ∙ ap (with_first v) rest.all;
    fit = both (fits (kind_of types form) v) (fits_row (map (kind_of types) forms) rest.values) (ap (λ (k : SqlType). fits k v) same ∙ gives) rest.fit;
  }

  pub all_there : fits_row types row ≡ true → (forms : List Form) → AllTyped types forms → are_calm types (forms_of forms) ≡ true → Values forms
  all_there fit [] typed calm = record { values = []; all = refl; fit = refl }
  all_there fit (form ∷ forms) (own, typed) calm =
      one_more form forms own.kind (kind_is types own.path form own.kind own.is)
      (all_there fit forms typed (and_second (is_calm types form) (are_calm types (forms_of forms)) calm))
      (value form) refl
      (calm_value types row fit own.path form own.kind own.is (and_first (is_calm types form) (are_calm types (forms_of forms)) calm))
      (value_gives types row fit own.path form own.kind own.is)

  both_values : (vs ws : List Value) (r : Result (List Value) Fail) → r ≡ Ok vs → r ≡ Ok ws → vs ≡ ws
  both_values vs ws r g h = same vs ws (sym g ∙ h)
    where
      same : (x y : List Value) → ◌≡◌ {A = Result (List Value) Fail} (Ok x) (Ok y) → x ≡ y
      same x y e = cc

  -- in each mode
  pub quiet_filter : (mode : Mode) (form : Form) → IsTyped types form → fits_in mode types row ≡ true → is_calm types form ≡ true
      → IsQuiet mode (filter_judge types form row)
  quiet_filter strict form typed fit calm = calm_filter types row form typed fit calm
  quiet_filter skipping form typed fit calm = tt

  pub quiet_project : (mode : Mode) (forms : List Form) → AllTyped types forms → fits_in mode types row ≡ true → are_calm types (forms_of forms) ≡ true
      → IsQuiet mode (project_judge types forms row)
  quiet_project strict forms typed fit calm = ap (λ (r : Result (List Value) Fail). is_failure (verdict_of r)) (all_there fit forms typed calm).all
  quiet_project skipping forms typed fit calm = tt

  pub fit_project : (mode : Mode) (forms : List Form) → AllTyped types forms → fits_in mode types row ≡ true → are_calm types (forms_of forms) ≡ true
      → (vs : List Value) → all_values (map value forms) ≡ Ok vs → fits_in mode (map (kind_of types) forms) vs ≡ true
  fit_project strict forms typed fit calm vs is =
      let there = all_there fit forms typed calm in
      subst (λ (ws : List Value). fits_row (map (kind_of types) forms) ws ≡ true) (both_values there.values vs (all_values (map value forms)) there.all is) there.fit
  fit_project skipping forms typed fit calm vs is = refl
