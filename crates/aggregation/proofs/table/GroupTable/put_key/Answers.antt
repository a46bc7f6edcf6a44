use Rattle.std.proofs.Common.{◌≡◌, ◌<◌, [], ap, get_or, length, ◌∙◌, arith}
use Rattle.sql_values.specs.Cells.{cell}
use Rattle.aggregation.specs.Tables.{TableState}
use Rattle.aggregation.proofs.RowLemmas.{key-put}
use Rattle.aggregation.proofs.TableLemmas.{key-long}
use Rattle.aggregation.proofs.table.GroupTable.put_key.Goals as goal

pub loop-column-preserved : goal.loop-column-preserved
loop-column-preserved c =
    let s = c.self.inside in
    let at = c.loop-column.column in
    let key = get_or c.args.self.now.keys c.args.place [] in
    let wide : length key ≡ length s.columns.items
    = key-long s.columns.items s.calls.items s.types.items s.index s.groups.items c.self.invariant c.args.self.now c.self.view_is c.args.place c.requires in
    let within : at < length key = omega (arith, wide, c.loop-column-test.true, c.in_ok-column-end.ensures.0, c.len.ensures, s.columns.ok.0) in
    key-put c.args.rows.now c.loop-column.rows c.put.new.self key at c.in_ok-put.field-0 c.loop-column.invariant c.in_ok-put.ensures.ok c.if-not-branch.false
    (c.cell.ensures ∙ ap (λ (t : TableState). cell (get_or t.keys c.args.place []) at) c.self.view_is) within
