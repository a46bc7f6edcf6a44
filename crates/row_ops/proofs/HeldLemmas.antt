-- What `FilterProject` may give and fail on, after a page was taken in or given.
use Rattle.std.proofs.Common.{◌≡◌, ◌<◌, ℕ, List, [], ◌∷◌, ◌++◌, length, map, subst, Bool, true, false, not, ◌||◌, refl, ap, sym, ◌∙◌, append-nil, Option, Some, None, arith}
use Rattle.std.specs.Option.{option_or}
use Rattle.std.specs.Prelude.{◌↔◌, option_map}
use Rattle.sql_values.specs.declared.value.Value.{Value}
use Rattle.sql_values.specs.declared.fail.Fail.{Fail}
use Rattle.col_pages.specs.Pages.{TypedPage}
use Rattle.operator_core.specs.Samples.{has_row}
use Rattle.operator_core.specs.declared.fault.OpFault.TheVariants.{Expr}
use Rattle.relation_laws.specs.Verdicts.{Verdict}
use Rattle.sql_exprs.specs.declared.expr.Expr.{Expr as Expression}
use Rattle.sql_exprs.specs.Forms.{form_view}
use Rattle.page_processor.specs.declared.judged.Judged.{Judged}
use Rattle.page_processor.specs.Judged.{first_failure, judged, rows_before}
use Rattle.row_ops.specs.RowJudges.{kinds_of_forms, row_judge}
use Rattle.row_ops.specs.RowsHeld.{FilterFails, FilterGives, FilterState, judge_in, rows_held, unless_failed}
use Rattle.row_ops.proofs.JudgeLemmas.{failure-later, rows-later}

-- who needs input holds no row
pub holds-none : (told : Bool) (rows : List (List Value)) → not (told || has_row rows) ≡ true → rows ≡ []
holds-none true rows e = cc
holds-none false [] e = refl
holds-none false (row ∷ rows) e = cc

module _ (judge : List Value → Verdict) where
  -- a page was judged
  pub took-gives : (old new : Option TypedPage) (failure after : Option Fail) (rows X B : List (List Value)) → failure ≡ None → rows_held old ≡ []
      → rows_held new ≡ rows_before judge rows → after ≡ first_failure judge rows → FilterGives judge new after X B → FilterGives judge old failure (rows ++ X) B
  took-gives old new failure after rows X B none empty page fail g =
      let before : unless_failed failure (rows_held old) (rows_before judge (rows ++ X)) ≡ rows_before judge (rows ++ X) = rw (none, empty) refl in
      g ∙ ap (λ h. unless_failed after h (rows_before judge X)) page ∙ ap (λ f. unless_failed f (rows_before judge rows) (rows_before judge X)) fail
      ∙ sym (rows-later judge rows X) ∙ sym before

  fails-then : (failure after : Option Fail) (rows X : List (List Value)) → failure ≡ None → after ≡ first_failure judge rows
      → option_or after (first_failure judge X) ≡ option_or failure (first_failure judge (rows ++ X))
  fails-then failure after rows X none fail =
      let before : option_or failure (first_failure judge (rows ++ X)) ≡ first_failure judge (rows ++ X) = rw none refl in
      ap (λ f. option_or f (first_failure judge X)) fail ∙ sym (failure-later judge rows X) ∙ sym before

  pub took-fails : (own : ℕ) (failure after : Option Fail) (rows X : List (List Value)) (node : ℕ) (kind : Fail) → failure ≡ None → after ≡ first_failure judge rows
      → FilterFails judge own after X node kind ↔ FilterFails judge own failure (rows ++ X) node kind
  took-fails own failure after rows X node kind none fail =
      let same = fails-then failure after rows X none fail in
      ((λ f. (f.0, sym same ∙ f.1)), (λ f. (f.0, same ∙ f.1)))

  -- a failure that was found comes whatever follows
  pub failed-here : (own : ℕ) (failure after : Option Fail) (rows X : List (List Value)) (kind : Fail) → failure ≡ None → after ≡ first_failure judge rows
      → after ≡ Some kind → FilterFails judge own failure (rows ++ X) own kind
  failed-here own failure after rows X kind none fail some =
      let here : option_or after (first_failure judge X) ≡ Some kind = rw some refl in
      (refl, sym (fails-then failure after rows X none fail) ∙ here)

-- rows that were given, and those that may come after them
pub given-first : (failure : Option Fail) (rows later B : List (List Value)) → B ≡ unless_failed failure [] later → rows ++ B ≡ unless_failed failure rows later
given-first None rows later B e = ap (λ b. rows ++ b) e
given-first (Some kind) rows later B e = ap (λ b. rows ++ b) e ∙ append-nil rows

pub some_row : (rows : List (List Value)) → 0 < length rows → has_row rows ≡ true
some_row [] h = absurd (omega arith)
some_row (row ∷ rows) h = refl

-- what the expressions make of a page of the input's types
module _ (s : FilterState) (page : TypedPage) (columns : List Expression) (j : Judged) (same : columns ≡ s.columns) (types : page.types ≡ s.types)
    (is : j ≡ judged (row_judge page.types (option_map form_view s.predicate) (map form_view columns)) (kinds_of_forms page.types (map form_view columns)) page.rows) where
  is-judged : j ≡ judged (judge_in s) (kinds_of_forms s.types (map form_view s.columns)) page.rows
  is-judged =
      is ∙ ap (λ ts. judged (row_judge ts (option_map form_view s.predicate) (map form_view columns)) (kinds_of_forms ts (map form_view columns)) page.rows) types
      ∙ ap (λ (cs : List Expression). judged (row_judge s.types (option_map form_view s.predicate) (map form_view cs)) (kinds_of_forms s.types (map form_view cs)) page.rows) same

  first-here : j.failure ≡ first_failure (judge_in s) page.rows
  first-here = ap (λ (k : Judged). k.failure) is-judged

  page-gives-here : s.failure ≡ None → not (s.is_told || has_row (rows_held s.held)) ≡ true
      → (X B : List (List Value)) → FilterGives (judge_in s) (Some j.page) j.failure X B → FilterGives (judge_in s) s.held s.failure (page.rows ++ X) B
  page-gives-here none needs X B g =
      took-gives (judge_in s) s.held (Some j.page) s.failure j.failure page.rows X B none (holds-none s.is_told (rows_held s.held) needs)
      (ap (λ (k : Judged). k.page.rows) is-judged) first-here g

  page-fails-here : s.failure ≡ None → (X : List (List Value)) (node : ℕ) (kind : Fail)
      → FilterFails (judge_in s) s.node j.failure X node kind ↔ FilterFails (judge_in s) s.node s.failure (page.rows ++ X) node kind
  page-fails-here none X node kind = took-fails (judge_in s) s.node s.failure j.failure page.rows X node kind none first-here

  page-fault-here : s.failure ≡ None → (kind : Fail) → j.failure ≡ Some kind → (X : List (List Value)) → FilterFails (judge_in s) s.node s.failure (page.rows ++ X) s.node kind
  page-fault-here none kind some X = failed-here (judge_in s) s.node s.failure j.failure page.rows X kind none first-here some

module _ (s now : FilterState) (at : s ≡ now) (page : TypedPage) (columns : List Expression) (j : Judged) (same : columns ≡ s.columns) (types : page.types ≡ now.types)
    (is : j ≡ judged (row_judge page.types (option_map form_view s.predicate) (map form_view columns)) (kinds_of_forms page.types (map form_view columns)) page.rows) where
  types-here : page.types ≡ s.types
  types-here = types ∙ sym (ap (λ (k : FilterState). k.types) at)

  pub page-gives : s.failure ≡ None → not (now.is_told || has_row (rows_held now.held)) ≡ true
      → (X B : List (List Value)) → FilterGives (judge_in s) (Some j.page) j.failure X B → FilterGives (judge_in now) now.held now.failure (page.rows ++ X) B
  page-gives none needs X B g =
      let needs-here : not (s.is_told || has_row (rows_held s.held)) ≡ true =
      ap (λ (k : FilterState). not (k.is_told || has_row (rows_held k.held))) at ∙ needs in
      subst (λ (k : FilterState). FilterGives (judge_in k) k.held k.failure (page.rows ++ X) B) at
      (page-gives-here s page columns j same types-here is none needs-here X B g)

  pub page-fails : s.failure ≡ None → (X : List (List Value)) (node : ℕ) (kind : Fail)
      → FilterFails (judge_in s) s.node j.failure X node kind ↔ FilterFails (judge_in now) now.node now.failure (page.rows ++ X) node kind
  page-fails none X node kind =
      subst (λ (k : FilterState). FilterFails (judge_in s) s.node j.failure X node kind ↔ FilterFails (judge_in k) k.node k.failure (page.rows ++ X) node kind) at
      (page-fails-here s page columns j same types-here is none X node kind)

  pub page-fault : s.failure ≡ None → (own : Fail) → j.failure ≡ Some own → (node : ℕ) (kind : Fail) → Expr s.node own ≡ Expr node kind
      → (X : List (List Value)) → FilterFails (judge_in now) now.node now.failure (page.rows ++ X) node kind
  page-fault none own some node kind e X =
      let n : s.node ≡ node = cc in
      let k : own ≡ kind = cc in
      let here = page-fault-here s page columns j same types-here is none own some X in
      subst (λ (k : FilterState). FilterFails (judge_in k) k.node k.failure (page.rows ++ X) node kind) at (sym n, here.1 ∙ ap (λ (f : Fail). Some f) k)
