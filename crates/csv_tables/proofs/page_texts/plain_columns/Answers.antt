use Rattle.std.proofs.Common.{◌++◌, ◌∷◌, ◌∙◌, [], List, ap, arith, length, length-append, subst, sym}
use Rattle.sql_values.specs.Blocks.{TypedCells}
use Rattle.csv_tables.specs.PageColumns.{AreColumnsFrom}
use Rattle.csv_tables.proofs.PageLemmas.{columns_more}
use Rattle.csv_tables.proofs.page_texts.plain_columns.Goals as goal

pub loop-column-preserved : goal.loop-column-preserved
loop-column-preserved c = (
  subst (AreColumnsFrom 0 c.args.page.now.rows) (sym c.in_ok-push.ensures.items)
      (columns_more c.args.page.now.rows 0 c.loop-column.columns.items c.in_ok-to_plain.field-0 c.loop-column.column c.loop-column.invariant.0 (omega (arith, c.loop-column.invariant.1))
      (ap (λ (k : TypedCells). k.cells) c.in_ok-to_plain.ensures ∙ c.in-Some.ensures.cells)),
  omega (
    arith,
    c.loop-column.invariant.1,
    ap (λ (l : List TypedCells). length l) c.in_ok-push.ensures.items,
    length-append c.loop-column.columns.items (c.in_ok-to_plain.field-0 ∷ []),
  ),
)
