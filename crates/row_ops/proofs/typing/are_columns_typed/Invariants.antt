use Rattle.std.proofs.Common.{◌≡◌, drop, map}
use Rattle.sql_exprs.specs.Forms.{form_view}
use Rattle.page_processor.specs.Typed.{AllTyped}
use Rattle.row_ops.specs.RowJudges.{are_all_typed}
use Rattle.row_ops.proofs.typing.are_columns_typed.Given as goal

abbrev pub invariant-loop-column : goal.invariant-loop-column
invariant-loop-column l = record {
  answer : are_all_typed l.types (map form_view l.columns) ≡ are_all_typed l.types (map form_view (drop l.column-index l.columns));
  typed : AllTyped l.types (map form_view (drop l.column-index l.columns)) → AllTyped l.types (map form_view l.columns);
}
