-- What aggregates make of the rows of their input.
use Rattle.std.proofs.Common.{◌≡◌, ◌∙◌, ℕ, List, [], ◌∷◌, ◌++◌, ap, length, map, refl, sym, subst}
use Rattle.std.specs.Prelude.{flat_map, MatchResult, Result, Ok, Err}
use Rattle.std.proofs.lemmas.List.Sorted.{IsPermutation-refl}
use Rattle.sql_values.specs.declared.types.SqlType.{SqlType}
use Rattle.sql_values.specs.declared.value.Value.{Value}
use Rattle.sql_values.specs.declared.relational.Call.{Call}
use Rattle.sql_values.specs.Bags.{SameBag}
use Rattle.sql_functions.specs.CallTypes.{type_at}
use Rattle.col_pages.specs.Pages.{TypedPage}
use Rattle.relation_laws.specs.Groups.{groups_of}
use Rattle.relation_laws.specs.Verdicts.{Verdict, failures, keeps, kept}
use Rattle.plan_trees.specs.Steps.{aggregate}
use Rattle.plan_trees.specs.TreeTypes.{call_kind}
use Rattle.plan_trees.specs.Allowed.{Taken, strict}
use Rattle.aggregation.specs.Giving.{verdicts_with}
use Rattle.aggregation.specs.Held.{first_keys, first_partials}
use Rattle.aggregation.specs.Tables.{TableState}
use Rattle.aggregation.proofs.PartLemmas.{made_verdicts}
use Rattle.aggregation.proofs.SingleLemmas.{kept-keeps}
use Rattle.tree_evaluator.specs.declared.stop.EvalStop.{EvalStop}
use Rattle.tree_evaluator.specs.declared.stop.EvalStop.TheVariants as stop
use Rattle.tree_evaluator.specs.Stops.{GroupStops}
use Rattle.tree_evaluator.proofs.EvalLemmas.{Answers}

-- rows of which all groups are kept
none_fails : (rows : List (List Value)) → failures (map keeps rows) ≡ 0
none_fails [] = refl
none_fails (row ∷ rows) = none_fails rows

all_taken : (verdicts : List Verdict) (rows : List (List Value)) → map keeps rows ≡ verdicts → Taken strict verdicts rows
all_taken verdicts rows said = record {
  calm = ap failures (sym said) ∙ none_fails rows;
  are_kept = subst (λ (vs : List Verdict). SameBag (flat_map kept vs) rows) said
      (subst (λ (all : List (List Value)). SameBag all rows) (sym (kept-keeps rows)) (IsPermutation-refl rows));
}

-- the answer of an aggregate over rows of these types
abbrev pub GivesGroups : List SqlType → List ℕ → List Call → ℕ → List (List Value) → Result TypedPage EvalStop → Type 0
GivesGroups types keys calls id rows r =
    MatchResult r
    (λ n. (n.types ≡ map (type_at types) keys ++ map (call_kind types) calls) × (map keeps n.rows ≡ groups_of types keys calls rows))
    (GroupStops id (groups_of types keys calls rows))

pub group_answer : (id : ℕ) (keys : List ℕ) (calls : List Call) (rows : TypedPage) (r : Result TypedPage EvalStop)
    → GivesGroups rows.types keys calls id rows.rows r → Answers id (aggregate keys calls) rows r
group_answer id keys calls rows (Ok n) h = record { types = h.0; gives = all_taken (groups_of rows.types keys calls rows.rows) n.rows h.1 }
group_answer id keys calls rows (Err (stop.ExprFailed node kind)) h = h
group_answer id keys calls rows (Err stop.Memory) h = tt

-- of a table to which no row came
pub made_told : (types : List SqlType) (columns : List ℕ) (calls : List Call) (table : TableState) (rows : List (List Value))
    → table ≡ record { columns = columns; calls = calls; types = types; keys = first_keys (length columns); partials = first_partials (length columns) calls }
    → verdicts_with table rows ≡ groups_of types columns calls rows
made_told types columns calls table rows made = ap (λ (t : TableState). verdicts_with t rows) made ∙ made_verdicts types columns calls rows
