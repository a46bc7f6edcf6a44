-- What an operator means that chooses and orders rows, and never fails.
use Rattle.std.proofs.Common.{ℕ, List, [], ◌∷◌, ◌++◌, refl, sym, subst}
use Rattle.std.specs.Prelude.{IsTrue}
use Rattle.std.proofs.lemmas.List.Elements.{All-take}
use Rattle.std.proofs.lemmas.List.Sorted.{All-permutation}
use Rattle.sql_values.specs.ColumnRows.{fits_row}
use Rattle.sql_values.specs.declared.types.SqlType.{SqlType}
use Rattle.col_pages.specs.Fits.{AllFit}
use Rattle.operator_core.specs.declared.operator.Operator.{Ghosts}
use Rattle.operator_core.specs.Rows.{Row}
use Rattle.plan_trees.specs.Allowed.{skipping, strict}
use Rattle.plan_trees.specs.Steps.{StepForm, aggregate, filter, limit, project, sort, topn}
use Rattle.plan_run_laws.specs.Stages.{Makes, Stage, does}
use Rattle.plan_run_laws.proofs.GoOnLemmas.{goes_on-one}
use Rattle.stage_meanings.specs.Pipelines.{at_node}
use Rattle.stage_meanings.specs.Meanings.{Means}
use Rattle.stage_meanings.specs.RowMeanings.{MakesRows, Orders}

-- the stage makes rows of the types `given` of rows of the types `taken`
abbrev pub GivesTypes : Stage → List SqlType → List SqlType → Type 0
GivesTypes stage taken given = (X Y : List Row) → AllFit taken X → Makes strict stage X Y → AllFit given Y

pub made_rows-mean : {S : Type 0} (g : Ghosts S) (m : S) (node : ℕ) (taken given : List SqlType) (stage : Stage) → GivesTypes stage taken given → MakesRows g m stage
    → Means g m taken (at_node node stage ∷ []) given
made_rows-mean g m node taken given stage fit own = record {
  fits = λ X Y fits gives. fit X Y fits (own.makes strict X Y gives);
  makes = λ X Y fits gives none. (Y, own.makes strict X Y gives, refl);
  goes_on = λ X Y ended done fits can. goes_on-one stage X Y ended done (λ more may.
      let c = can.could more may in (c.0, own.makes skipping (X ++ more) (Y ++ c.0) c.1, c.2));
  fails = λ X ended at kind fits fails. absurd (own.calm (X ++ []) at kind (fails [] (λ e. refl)));
}

-- rows that are chosen and ordered keep their types
pub orders_keep : (types : List SqlType) (s : StepForm) → Orders s → GivesTypes (does types s) types types
orders_keep types (filter predicate) none X Y fit gives = absurd none
orders_keep types (project columns) none X Y fit gives = absurd none
orders_keep types (aggregate keys calls) none X Y fit gives = absurd none
orders_keep types (sort keys) some X Y fit sorted = All-permutation (λ row. IsTrue (fits_row types row)) X Y sorted.same fit
orders_keep types (topn count keys) some X Y fit top =
    let all = All-permutation (λ row. IsTrue (fits_row types row)) X top.order top.sorted.same fit in
    subst (AllFit types) (sym top.is) (All-take (λ row. IsTrue (fits_row types row)) count top.order all)
orders_keep types (limit count) some X Y fit is = subst (AllFit types) (sym is) (All-take (λ row. IsTrue (fits_row types row)) count X fit)

pub orders-mean : {S : Type 0} (g : Ghosts S) (m : S) (node : ℕ) (types : List SqlType) (s : StepForm) → Orders s → MakesRows g m (does types s)
    → Means g m types (at_node node (does types s) ∷ []) types
orders-mean g m node types s some own = made_rows-mean g m node types types (does types s) (orders_keep types s some) own
