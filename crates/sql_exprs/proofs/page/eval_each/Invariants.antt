use Rattle.std.proofs.Common.{◌≡◌, drop}
use Rattle.sql_exprs.specs.Forms.{form_view}
use Rattle.sql_exprs.specs.Meaning.{kind_of}
use Rattle.sql_exprs.specs.Pages.{cells_at}
use Rattle.sql_exprs.proofs.PageLemmas.{after}
use Rattle.sql_exprs.proofs.page.eval_each.Given as goal

abbrev pub invariant-loop-position : goal.invariant-loop-position
invariant-loop-position l = record {
  kind : l.block.kind ≡ kind_of l.types (form_view l.expr);
  cells : cells_at l.types (form_view l.expr) l.page.rows l.positions ≡ after l.block.cells (cells_at l.types (form_view l.expr) l.page.rows (drop l.position-index l.positions));
}
