-- The rows of a result have the types of the plan's columns.
use Rattle.std.proofs.Common.{◌≡◌, List, [], ◌∷◌, map, subst, sym}
use Rattle.std.specs.Prelude.{All, ℕ}
use Rattle.std.proofs.lemmas.List.Elements.{All-cons, All-head, All-nil, All-tail}
use Rattle.sql_values.specs.declared.table.Table.{Table}
use Rattle.sql_values.specs.declared.types.Column.{Column}
use Rattle.sql_values.specs.Types.{IsType}
use Rattle.plan_docs.specs.declared.plan.TableDoc.{TableDoc}
use Rattle.plan_docs.specs.Plans.{PlanForm}
use Rattle.plan_trees.specs.Allowed.{strict}
use Rattle.plan_reader.specs.Trees.{tree_of}
use Rattle.csv_tables.specs.Tables.{records_of}
use Rattle.csv_tables.proofs.FitLemmas.{table_has_types}
use Rattle.command_line.specs.Words.{Job}
use Rattle.sql_values.specs.Columns.{kinds}
use Rattle.tree_evaluator.specs.Fits.{TablesFit}
use Rattle.task_executor.specs.Tables.{HaveColumns, WasRead}
use Rattle.plan_link_laws.proofs.DocumentLemmas.{read_consistent}
use Rattle.task_executor.proofs.ConsistentLemmas.{consistent_fits}
use Rattle.plan_type_laws.specs.TypedTrees.{HaveTypes}
use Rattle.plan_type_laws.proofs.TreeLemmas.{rows_keep}
use Rattle.plan_type_laws.specs.Tables.{TablesTyped}
use Rattle.plan_type_laws.proofs.PlanLemmas.{declared_types, plan_typed}
use Rattle.query_runner.specs.Jobs.{AreTablesAsked, Contents, row_limit}
use Rattle.tree_evaluator.specs.Stops.{rows_of_table}
use Rattle.query_runner.specs.Answers.{IsResult, IsTextOf}

abbrev AreTypes : TableDoc → Type 0
AreTypes doc = All (λ column. IsType column.kind) doc.columns

abbrev IsTyped : Table → Type 0
IsTyped table = HaveTypes (kinds table.columns) table.rows

-- each table has its columns' types, since it was read by them
asked_typed : (held : Contents) (job : Job) (docs : List TableDoc) (tables : List Table) → HaveColumns docs tables → All AreTypes docs
    → AreTablesAsked held job docs (map rows_of_table tables) → TablesTyped tables
asked_typed held job [] [] own types asked = All-nil IsTyped
asked_typed held job [] (table ∷ tables) own types asked = absurd asked
asked_typed held job (doc ∷ docs) [] own types asked = absurd asked
asked_typed held job (doc ∷ docs) (table ∷ tables) own types asked =
    let same : table.columns ≡ doc.columns = cc in
    let rest : HaveColumns docs tables = cc in
    All-cons IsTyped table tables
    (subst (λ (columns : List Column). HaveTypes (kinds columns) table.rows) (sym same)
    (table_has_types doc.columns row_limit (records_of asked.0.bytes) table.rows (All-head AreTypes doc docs types) asked.0.is_table.reads))
    (asked_typed held job docs tables rest (All-tail AreTypes doc docs types) asked.1)

pub result_typed : (held : Contents) (job : Job) (plan : PlanForm) (tables : List Table) (text : List ℕ) → WasRead plan → HaveColumns plan.tables tables
    → TablesFit tables → AreTablesAsked held job plan.tables (map rows_of_table tables) → IsTextOf plan (map rows_of_table tables) text → IsResult held job plan text
result_typed held job plan tables text read own fit asked is = record {
  tables = map rows_of_table tables;
  are_tables = asked;
  is_text = is;
  typed = rows_keep strict (tree_of plan) (map rows_of_table tables) (consistent_fits plan (read_consistent plan read.bytes read.is_plan) tables own fit)
      (plan_typed plan tables read own (asked_typed held job plan.tables tables own (declared_types plan read) asked)) is.list is.allowed;
}
