-- The rows that are kept fit their types.
use Rattle.std.proofs.Common.{◌≡◌, ◌∙◌, ap, sym, refl, Bool, true, false, List, [], ◌∷◌, map, subst}
use Rattle.std.specs.Prelude.{IsTrue, Result, Ok, Err, if◌then◌else◌}
use Rattle.std.proofs.lemmas.List.Elements.{All-cons, All-nil}
use Rattle.sql_values.specs.declared.types.SqlType.{SqlType}
use Rattle.sql_values.specs.declared.value.Value.{Value}
use Rattle.sql_values.specs.declared.fail.Fail.{Fail}
use Rattle.sql_values.specs.Blocks.{fits}
use Rattle.sql_values.specs.ColumnRows.{fits_row}
use Rattle.sql_functions.specs.Outcomes.{GivesType, Outcome}
use Rattle.sql_functions.specs.Truth.{is_true}
use Rattle.sql_exprs.specs.Forms.{Form}
use Rattle.sql_exprs.specs.Meaning.{kind_of, value_of}
use Rattle.sql_exprs.proofs.FitLemmas.{value_gives}
use Rattle.sql_exprs.proofs.TypingLemmas.{kind_is}
use Rattle.relation_laws.specs.Aggregates.{all_values, with_first}
use Rattle.relation_laws.specs.Verdicts.{Verdict, keeps, drops, verdict_of}
use Rattle.plan_trees.specs.Judges.{filter_judge, filtered, project_judge}
use Rattle.page_processor.specs.Judged.{given_first, judged, rows_before}
use Rattle.page_processor.specs.declared.judged.Judged.{Judged}
use Rattle.col_pages.specs.Fits.{AllFit}
use Rattle.page_processor.specs.Typed.{AllTyped, IsTyped}
use Rattle.page_processor.proofs.FilterLemmas.{first_fits, rest_fits}
use Rattle.page_processor.proofs.ProjectLemmas.{ok_same}

abbrev Fits : List SqlType → List Value → Type 0
Fits types row = IsTrue (fits_row types row)

kept_fits : (types : List SqlType) (row : List Value) (rows : List (List Value)) (b : Bool) → fits_row types row ≡ true → AllFit types rows
    → AllFit types (given_first (if b then keeps row else drops) rows)
kept_fits types row rows true fit all = All-cons (Fits types) row rows fit all
kept_fits types row rows false fit all = all

filtered_fits : (types : List SqlType) (row : List Value) (rows : List (List Value)) (here : Outcome) → fits_row types row ≡ true → AllFit types rows
    → AllFit types (given_first (filtered row here) rows)
filtered_fits types row rows (Ok v) fit all = kept_fits types row rows (is_true v) fit all
filtered_fits types row rows (Err kind) fit all = All-nil (Fits types)

pub filter_fits : (types : List SqlType) (form : Form) (rows : List (List Value)) → AllFit types rows → AllFit types (rows_before (filter_judge types form) rows)
filter_fits types form [] all = All-nil (Fits types)
filter_fits types form (row ∷ rows) all =
    filtered_fits types row (rows_before (filter_judge types form) rows) (value_of types form row) (first_fits types row rows all) (filter_fits types form rows (rest_fits types row rows all))

value_fits : (types : List SqlType) (form : Form) (row : List Value) (v : Value) → IsTyped types form → fits_row types row ≡ true → value_of types form row ≡ Ok v → fits (kind_of types form) v ≡ true
value_fits types form row v typed fit e =
    let gives : GivesType (kind_of types form) (value_of types form row) =
    subst (λ k. GivesType k (value_of types form row)) (sym (kind_is types typed.path form typed.kind typed.is)) (value_gives types row fit typed.path form typed.kind typed.is) in
    subst (λ o. GivesType (kind_of types form) o) e gives

values_at : (types : List SqlType) (form : Form) (forms : List Form) (row : List Value) (here : Outcome) (later : Result (List Value) Fail) (vs : List Value)
    → IsTyped types form → fits_row types row ≡ true → value_of types form row ≡ here → all_values (map (λ c. value_of types c row) forms) ≡ later
    → ((ws : List Value) → all_values (map (λ c. value_of types c row) forms) ≡ Ok ws → fits_row (map (kind_of types) forms) ws ≡ true)
    → all_values (here ∷ map (λ c. value_of types c row) forms) ≡ Ok vs → fits_row (map (kind_of types) (form ∷ forms)) vs ≡ true
values_at types form forms row (Ok v) (Ok ws) vs typed fit h l further e =
    let same : v ∷ ws ≡ vs = ok_same (all_values (Ok v ∷ map (λ c. value_of types c row) forms)) (v ∷ ws) vs (ap (with_first v) l) e in
    subst (λ xs. fits_row (kind_of types form ∷ map (kind_of types) forms) xs ≡ true) same
    (rw (value_fits types form row v typed fit h) (further ws l))
values_at types form forms row (Ok v) (Err kind) vs typed fit h l further e = let no : with_first v (Err kind) ≡ Ok vs = ap (with_first v) (sym l) ∙ e in cc
values_at types form forms row (Err kind) later vs typed fit h l further e = cc

values_fit : (types : List SqlType) (forms : List Form) (row : List Value) (vs : List Value) → AllTyped types forms → fits_row types row ≡ true
    → all_values (map (λ c. value_of types c row) forms) ≡ Ok vs → fits_row (map (kind_of types) forms) vs ≡ true
values_fit types [] row vs typed fit e = let none : [] ≡ vs = ok_same (Ok []) [] vs refl e in subst (λ xs. fits_row [] xs ≡ true) none refl
values_fit types (form ∷ forms) row vs typed fit e =
    values_at types form forms row (value_of types form row) (all_values (map (λ c. value_of types c row) forms)) vs typed.0 fit refl refl
    (λ ws h. values_fit types forms row ws typed.1 fit h) e

projected_fits : (kinds : List SqlType) (rows : List (List Value)) (here : Result (List Value) Fail) → ((vs : List Value) → here ≡ Ok vs → fits_row kinds vs ≡ true) → AllFit kinds rows
    → AllFit kinds (given_first (verdict_of here) rows)
projected_fits kinds rows (Ok vs) fit all = All-cons (Fits kinds) vs rows (fit vs refl) all
projected_fits kinds rows (Err kind) fit all = All-nil (Fits kinds)

pub project_fits : (types : List SqlType) (forms : List Form) (rows : List (List Value)) → AllTyped types forms → AllFit types rows
    → AllFit (map (kind_of types) forms) (rows_before (project_judge types forms) rows)
project_fits types forms [] typed all = All-nil (Fits (map (kind_of types) forms))
project_fits types forms (row ∷ rows) typed all =
    projected_fits (map (kind_of types) forms) (rows_before (project_judge types forms) rows) (all_values (map (λ c. value_of types c row) forms))
    (λ vs h. values_fit types forms row vs typed (first_fits types row rows all) h) (project_fits types forms rows typed (rest_fits types row rows all))

pub along : (kinds : List SqlType) (judge : List Value → Verdict) (rows : List (List Value)) (answer : Judged) → answer ≡ judged judge kinds rows → AllFit kinds (rows_before judge rows) → AllFit kinds answer.page.rows
along kinds judge rows answer e all = subst (AllFit kinds) (sym (ap (λ (j : Judged). j.page.rows) e)) all
