-- The rows that filters and projects keep have their types.
use Rattle.std.proofs.Common.{◌≡◌, ◌∙◌, ap, sym, refl, Bool, true, false, List, [], ◌∷◌, map, subst}
use Rattle.std.specs.Prelude.{All, Result, Ok, Err, if◌then◌else◌}
use Rattle.std.proofs.lemmas.Bool.{and_from}
use Rattle.std.proofs.lemmas.List.Elements.{All-cons, All-nil}
use Rattle.sql_values.specs.declared.types.SqlType.{SqlType}
use Rattle.sql_values.specs.declared.value.Value.{Value}
use Rattle.sql_values.specs.declared.fail.Fail.{Fail}
use Rattle.sql_values.specs.Types.{has_type, row_has_types}
use Rattle.sql_functions.specs.Outcomes.{Outcome}
use Rattle.sql_functions.specs.Truth.{is_true}
use Rattle.sql_exprs.specs.Forms.{Form}
use Rattle.sql_exprs.specs.Meaning.{kind_of, value_of}
use Rattle.sql_exprs.proofs.TypingLemmas.{kind_is}
use Rattle.relation_laws.specs.Aggregates.{all_values, with_first}
use Rattle.relation_laws.specs.Verdicts.{keeps, drops, kept, kept_rows, verdict_of}
use Rattle.relation_laws.proofs.WidthLemmas.{All-flat}
use Rattle.plan_trees.specs.Judges.{filter_judge, filtered, project_judge}
use Rattle.page_processor.specs.Typed.{AllTyped, IsTyped}
use Rattle.page_processor.proofs.ProjectLemmas.{ok_same}
use Rattle.type_laws.specs.Keeps.{CastsToTypes, KeepsType}
use Rattle.type_laws.proofs.FormLemmas.{value_keeps}
use Rattle.tree_type_laws.specs.TypedTrees.{EachCastsToTypes}
use Rattle.tree_type_laws.proofs.RowLemmas.{Has}

one : (types : List SqlType) (row : List Value) → Has types row → All (Has types) (row ∷ [])
one types row h = All-cons (Has types) row [] h (All-nil (Has types))

passed_has : (types : List SqlType) (row : List Value) (b : Bool) → Has types row → All (Has types) (kept (if b then keeps row else drops))
passed_has types row true h = one types row h
passed_has types row false h = All-nil (Has types)

filtered_has : (types : List SqlType) (row : List Value) (here : Outcome) → Has types row → All (Has types) (kept (filtered row here))
filtered_has types row (Ok v) h = passed_has types row (is_true v) h
filtered_has types row (Err kind) h = All-nil (Has types)

pub filter_keeps : (types : List SqlType) (form : Form) (rows : List (List Value)) → All (Has types) rows → All (Has types) (kept_rows (filter_judge types form) rows)
filter_keeps types form rows all =
    All-flat (Has types) (Has types) (λ row. kept (filter_judge types form row)) (λ row h. filtered_has types row (value_of types form row) h) rows all

value_has_type : (types : List SqlType) (form : Form) (row : List Value) (v : Value) → IsTyped types form → CastsToTypes form → row_has_types types row ≡ true → value_of types form row ≡ Ok v
    → has_type (kind_of types form) v ≡ true
value_has_type types form row v typed casts has e =
    let keeps : KeepsType (kind_of types form) (value_of types form row) =
    subst (λ k. KeepsType k (value_of types form row)) (sym (kind_is types typed.path form typed.kind typed.is)) (value_keeps types row has typed.path form typed.kind casts typed.is) in
    subst (λ o. KeepsType (kind_of types form) o) e keeps

values_at : (types : List SqlType) (form : Form) (forms : List Form) (row : List Value) (here : Outcome) (later : Result (List Value) Fail) (vs : List Value)
    → IsTyped types form → CastsToTypes form → row_has_types types row ≡ true → value_of types form row ≡ here → all_values (map (λ c. value_of types c row) forms) ≡ later
    → ((ws : List Value) → all_values (map (λ c. value_of types c row) forms) ≡ Ok ws → row_has_types (map (kind_of types) forms) ws ≡ true)
    → all_values (here ∷ map (λ c. value_of types c row) forms) ≡ Ok vs → row_has_types (map (kind_of types) (form ∷ forms)) vs ≡ true
values_at types form forms row (Ok v) (Ok ws) vs typed casts has h l further e =
    let same : v ∷ ws ≡ vs = ok_same (all_values (Ok v ∷ map (λ c. value_of types c row) forms)) (v ∷ ws) vs (ap (with_first v) l) e in
    subst (λ xs. row_has_types (kind_of types form ∷ map (kind_of types) forms) xs ≡ true) same
    (and_from (has_type (kind_of types form) v) (row_has_types (map (kind_of types) forms) ws) (value_has_type types form row v typed casts has h) (further ws l))
values_at types form forms row (Ok v) (Err kind) vs typed casts has h l further e = let no : with_first v (Err kind) ≡ Ok vs = ap (with_first v) (sym l) ∙ e in cc
values_at types form forms row (Err kind) later vs typed casts has h l further e = cc

values_have_types : (types : List SqlType) (forms : List Form) (row : List Value) (vs : List Value) → AllTyped types forms → EachCastsToTypes forms → row_has_types types row ≡ true
    → all_values (map (λ c. value_of types c row) forms) ≡ Ok vs → row_has_types (map (kind_of types) forms) vs ≡ true
values_have_types types [] row vs typed casts has e = let none : [] ≡ vs = ok_same (Ok []) [] vs refl e in subst (λ xs. row_has_types [] xs ≡ true) none refl
values_have_types types (form ∷ forms) row vs typed casts has e =
    values_at types form forms row (value_of types form row) (all_values (map (λ c. value_of types c row) forms)) vs typed.0 casts.0 has refl refl
    (λ ws h. values_have_types types forms row ws typed.1 casts.1 has h) e

projected_has : (kinds : List SqlType) (here : Result (List Value) Fail) → ((vs : List Value) → here ≡ Ok vs → Has kinds vs) → All (Has kinds) (kept (verdict_of here))
projected_has kinds (Ok vs) has = one kinds vs (has vs refl)
projected_has kinds (Err kind) has = All-nil (Has kinds)

pub project_keeps : (types : List SqlType) (forms : List Form) (rows : List (List Value)) → AllTyped types forms → EachCastsToTypes forms → All (Has types) rows
    → All (Has (map (kind_of types) forms)) (kept_rows (project_judge types forms) rows)
project_keeps types forms rows typed casts all =
    All-flat (Has types) (Has (map (kind_of types) forms)) (λ row. kept (project_judge types forms row))
    (λ row h. projected_has (map (kind_of types) forms) (all_values (map (λ c. value_of types c row) forms)) (λ vs e. values_have_types types forms row vs typed casts h e)) rows all
