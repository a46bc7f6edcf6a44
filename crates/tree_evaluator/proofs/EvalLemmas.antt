-- What steps make of the rows of their input, and what that is of the tree.
use Rattle.std.proofs.Common.{◌≡◌, ◌∙◌, ℕ, inl, List, ap, map, sym, subst, None, Some}
use Rattle.std.specs.Prelude.{MatchResult, Result, Ok, Err}
use Rattle.sql_values.specs.declared.types.SqlType.{SqlType}
use Rattle.sql_values.specs.declared.value.Value.{Value}
use Rattle.sql_values.specs.declared.fail.Fail.{Fail}
use Rattle.sql_exprs.specs.Forms.{Form}
use Rattle.sql_exprs.specs.Meaning.{kind_of}
use Rattle.col_pages.specs.Pages.{TypedPage}
use Rattle.relation_laws.specs.Verdicts.{Verdict}
use Rattle.plan_trees.specs.Judges.{filter_judge, project_judge}
use Rattle.plan_trees.specs.Modes.{Judged, strict}
use Rattle.plan_trees.specs.Steps.{RowFails, StepFails, StepForm, StepGives, filter, is_late, project, types_after}
use Rattle.plan_trees.specs.TreeForms.{TreeForm, step}
use Rattle.plan_trees.proofs.GivenLemmas.{all-came, may_have_given}
use Rattle.plan_trees.proofs.ModeLemmas.{skipping_from_strict}
use Rattle.page_processor.specs.Judged.{first_failure, rows_before}
use Rattle.tree_evaluator.specs.declared.stop.EvalStop.{EvalStop}
use Rattle.tree_evaluator.specs.declared.stop.EvalStop.TheVariants as stop
use Rattle.tree_evaluator.specs.Stops.{IsEvaluated, IsStepped, StepStops, StopsFor, StopsHere}
use Rattle.tree_evaluator.proofs.JudgeLemmas.{all_judged, failing_row}

-- the answer of a step
abbrev pub Answers : ℕ → StepForm → TypedPage → Result TypedPage EvalStop → Type 0
Answers id s rows r = MatchResult r (IsStepped s rows) (StepStops id s rows)

-- the answer of a judge over rows of these types
abbrev pub GivesJudged : (List Value → Verdict) → ℕ → List SqlType → List (List Value) → Result TypedPage EvalStop → Type 0
GivesJudged judge id kinds rows r =
    MatchResult r (λ kept. (first_failure judge rows ≡ None) × (kept ≡ record { types = kinds; rows = rows_before judge rows })) (StopsHere id (first_failure judge rows))

row_fails : (judge : List Value → Verdict) (rows : List (List Value)) (kind : Fail) → first_failure judge rows ≡ Some kind → RowFails judge rows kind
row_fails judge rows kind e = let row = failing_row judge rows kind e in (row.row, row.among, row.so)

judged_all : (judge : List Value → Verdict) (kinds : List SqlType) (rows : List (List Value)) (kept : TypedPage) → first_failure judge rows ≡ None
    → kept ≡ record { types = kinds; rows = rows_before judge rows } → Judged strict judge rows kept.rows
judged_all judge kinds rows kept e k = subst (Judged strict judge rows) (sym (ap (λ (x : TypedPage). x.rows) k)) (all_judged judge rows e)

pub filter_answer : (id : ℕ) (p : Form) (rows : TypedPage) (r : Result TypedPage EvalStop)
    → GivesJudged (filter_judge rows.types p) id rows.types rows.rows r → Answers id (filter p) rows r
filter_answer id p rows (Ok kept) h = record {
  types = ap (λ (x : TypedPage). x.types) h.1;
  gives = judged_all (filter_judge rows.types p) rows.types rows.rows kept h.0 h.1;
}
filter_answer id p rows (Err (stop.ExprFailed node kind)) h = (h.0, row_fails (filter_judge rows.types p) rows.rows kind h.1)
filter_answer id p rows (Err stop.Memory) h = tt

pub project_answer : (id : ℕ) (columns : List Form) (rows : TypedPage) (kinds : List SqlType) (r : Result TypedPage EvalStop) → kinds ≡ map (kind_of rows.types) columns
    → GivesJudged (project_judge rows.types columns) id kinds rows.rows r → Answers id (project columns) rows r
project_answer id columns rows kinds (Ok kept) same h = record {
  types = ap (λ (x : TypedPage). x.types) h.1 ∙ same;
  gives = judged_all (project_judge rows.types columns) kinds rows.rows kept h.0 h.1;
}
project_answer id columns rows kinds (Err (stop.ExprFailed node kind)) same h = (h.0, row_fails (project_judge rows.types columns) rows.rows kind h.1)
project_answer id columns rows kinds (Err stop.Memory) same h = tt

module _ (id : ℕ) (s : StepForm) (input : TreeForm) (tables : List (List (List Value))) (rows : TypedPage) (given : IsEvaluated input tables rows) where
  step_stops : (reason : EvalStop) → StepStops id s rows reason → StopsFor (step id s input) tables reason
  step_stops (stop.ExprFailed node kind) h = inl (
    h.0,
    record {
      given = rows.rows;
      may = let all = skipping_from_strict input tables rows.rows given.allowed in all-came (is_late s) all (may_have_given input tables rows.rows all);
      so = subst (λ (ts : List SqlType). StepFails ts s rows.rows kind) given.types h.1;
    },
  )
  step_stops stop.Memory h = tt

  -- of rows that the input gave, what the step makes is what the node gives
  pub node_answer : (r : Result TypedPage EvalStop) → Answers id s rows r → MatchResult r (IsEvaluated (step id s input) tables) (StopsFor (step id s input) tables)
  node_answer (Ok made) h = record {
    types = h.types ∙ ap (types_after s) given.types;
    allowed = (rows.rows, given.allowed, subst (λ (ts : List SqlType). StepGives strict ts s rows.rows made.rows) given.types h.gives);
  }
  node_answer (Err reason) h = step_stops reason h
