-- The tree of a plan that was read, over tables whose rows have the types of the columns that it declares.
use Rattle.std.proofs.Common.{◌≡◌, List, get_or, length, map, ap, sym, ◌∙◌, subst}
use Rattle.std.specs.Prelude.{All}
use Rattle.std.proofs.lemmas.List.Elements.{All-map}
use Rattle.serde_json.specs.Data.{Data}
use Rattle.sql_values.specs.declared.types.Column.{Column}
use Rattle.sql_values.specs.declared.table.Table.{Table}
use Rattle.sql_values.specs.Types.{IsType}
use Rattle.json_paths.specs.declared.key.Key.TheVariants as key
use Rattle.plan_grammar.specs.Json.{entries_under, text_under}
use Rattle.plan_docs.specs.declared.plan.TableDoc.{TableDoc}
use Rattle.plan_docs.specs.Documents.{fragment_of, table_of}
use Rattle.plan_docs.specs.Parts.{column_of}
use Rattle.plan_docs.specs.Plans.{PlanForm}
use Rattle.plan_reader.specs.Trees.{tree_of}
use Rattle.tree_evaluator.specs.Stops.{rows_of_table}
use Rattle.plan_link_laws.specs.Consistent.{IsConsistent}
use Rattle.plan_link_laws.proofs.DocumentLemmas.{fragments_of, read_consistent, tables_of}
use Rattle.plan_fit_laws.specs.Tables.{HaveColumns, WasRead}
use Rattle.plan_fit_laws.proofs.ConsistentLemmas.{consistent_fits, made}
use Rattle.tree_type_laws.specs.TypedTrees.{TypedTables}
use Rattle.plan_type_laws.specs.Tables.{TablesTyped}
use Rattle.plan_type_laws.proofs.FormLemmas.{named_type}
use Rattle.plan_type_laws.proofs.NodeLemmas.{AllNameTypes, fragment_kept, fragments_name}
use Rattle.plan_type_laws.proofs.ScanLemmas.{tables_fit}

tree_typed : (plan : PlanForm) → IsConsistent plan → (tables : List Table) → HaveColumns plan.tables tables → TablesTyped tables → TypedTables (tree_of plan) (map rows_of_table tables)
unfolding tree_of
tree_typed plan c tables own typed =
    let d = c.document in
    let fragments : plan.fragments ≡ map (fragment_of d) (entries_under key.Fragments d) = ap (λ (p : PlanForm). p.fragments) c.means ∙ fragments_of d in
    let names = subst AllNameTypes (sym fragments) (fragments_name d (entries_under key.Fragments d)) in
    fragment_kept plan.tables tables own typed (length plan.fragments) plan.fragments (made plan c) names 0 (consistent_fits plan c tables own (tables_fit tables typed))

pub plan_typed : (plan : PlanForm) (tables : List Table) → WasRead plan → HaveColumns plan.tables tables → TablesTyped tables
    → TypedTables (tree_of plan) (map rows_of_table tables)
plan_typed plan tables read own typed = tree_typed plan (read_consistent plan read.bytes read.is_plan) tables own typed

-- the types of the columns of a table are types
abbrev Declares : TableDoc → Type 0
Declares doc = All (λ column. IsType column.kind) doc.columns

table_declares : (d : Data) → Declares (table_of d)
table_declares d = All-map (λ (column : Column). IsType column.kind) column_of (entries_under key.Columns d) (λ k c within. named_type (text_under key.Type (get_or (entries_under key.Columns d) k c)))

pub declared_types : (plan : PlanForm) → WasRead plan → All (λ doc. All (λ column. IsType column.kind) doc.columns) plan.tables
declared_types plan read =
    let d = read.is_plan.document in
    subst (λ (p : PlanForm). All Declares p.tables) (sym read.is_plan.means)
    (subst (All Declares) (sym (tables_of d)) (All-map Declares table_of (entries_under key.Tables d) (λ k t within. table_declares (get_or (entries_under key.Tables d) k t))))
