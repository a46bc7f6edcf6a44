use Rattle.std.proofs.Common.{◌∙◌, ap, sym, length}
use Rattle.std.proofs.lemmas.List.{length-map}
use Rattle.columns.proofs.PresentLemmas.{All-within}
use Rattle.sql_values.specs.Blocks.{TypedCells}
use Rattle.sql_values.specs.Cells.{cell}
use Rattle.column_exprs.proofs.OperandLemmas.{chosen_length, column_chosen, column_kind, column_length, column_lent}
use Rattle.column_exprs.proofs.parts.column_operand.Goals as goal

pub select-requires : goal.select-requires
select-requires c =
    All-within (length c.args.rows.page.now.rows) (length c.in-Some.block.now.cells) c.args.rows.positions.now
    (sym (ap length c.in-Some.ensures.cells ∙ length-map c.args.rows.page.now.rows (λ row. cell row c.args.place))) c.requires.within

pub returns-then-rows : goal.returns-then-rows
returns-then-rows c =
    let all = c.requires.all c.if-rows.true in
    record {
      kind = column_kind c.args.rows.page.now.types c.args.place c.in-Some.block.now.kind c.in-Some.ensures.there;
      cells = column_length c.args.rows c.args.place c.in-Some.block.now.cells all c.in-Some.ensures.cells;
      each = column_lent c.args.rows c.args.place c.in-Some.block.now.kind c.in-Some.block.now.cells all c.in-Some.ensures.cells;
    }

pub returns : goal.returns
returns c =
    record {
      kind = ap (λ (b : TypedCells). b.kind) c.in_ok-select.ensures ∙ column_kind c.args.rows.page.now.types c.args.place c.in-Some.block.now.kind c.in-Some.ensures.there;
      cells = chosen_length c.in-Some.block.now.cells c.in_ok-select.field-0.cells c.args.rows.positions.now (ap (λ (b : TypedCells). b.cells) c.in_ok-select.ensures);
      each =
          column_chosen c.args.rows c.args.place c.in-Some.block.now.cells c.in_ok-select.field-0.cells c.in-Some.ensures.cells
          (ap (λ (b : TypedCells). b.cells) c.in_ok-select.ensures);
    }
