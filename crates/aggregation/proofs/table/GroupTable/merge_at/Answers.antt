use Rattle.std.proofs.Common.{◌≡◌, ℕ, ◌<◌, List, drop, length, ap, sym, subst, ◌∙◌, arith}
use Rattle.std.specs.Prelude.{OnOk}
use Rattle.sql_values.specs.declared.relational.Call.{Call}
use Rattle.accumulators.specs.Groups.{with_part}
use Rattle.aggregation.specs.Tables.{IsGroupOf, TableState}
use Rattle.aggregation.proofs.TableLemmas.{group-there, partials-set, table-set}
use Rattle.aggregation.proofs.table.GroupTable.merge_at.Goals as goal

pub invariant_of-self-2 : goal.invariant_of-self-2
invariant_of-self-2 g c =
    let s = c.self.inside in
    let of : IsGroupOf s.types.items s.calls.items c.index_mut-group.result.now
    = group-there s.columns.items s.calls.items s.types.items s.index s.groups.items c.self.invariant c.args.place c.index_mut-group.result.now
    (subst (λ (t : TableState). c.args.place < length t.keys) (sym c.self.view_is) c.requires) c.index_mut-group.ensures.value in
    table-set s.columns.items s.calls.items s.types.items s.index s.groups.items c.self.invariant c.args.place c.index_mut-group.result.now c.merge_cells-merged.new.self of
    c.merge_cells-merged.ensures.same.0 c.merge_cells-merged.ensures.same.1 c.none_adds_nothing.ensures

pub returns-clause-ok : goal.returns-clause-ok
returns-clause-ok g c =
    let s = c.self.inside in
    let row = g.C.Cells.values c.args.cells.now in
    let within = subst (λ (t : TableState). c.args.place < length t.keys) (sym c.self.view_is) c.requires in
    let first : c.in_ok-first.first ≡ length s.columns.items = omega (arith, c.in_ok-first.ensures.0, c.len.ensures, s.columns.ok.0) in
    let width : c.in_ok-first.first ≡ length c.args.self.now.columns = first ∙ ap (λ (t : TableState). length t.columns) c.self.view_is in
    partials-set s.columns.items s.calls.items s.types.items s.index s.groups.items c.self.invariant c.args.place c.index_mut-group.result.now c.merge_cells-merged.new.self
    (λ (calls : List Call). drop (length c.args.self.now.columns) row) c.merge_cells-merged.result c.args.self.now within c.self.view_is c.index_mut-group.ensures.value
    (subst (λ (n : ℕ). OnOk c.merge_cells-merged.result (c.merge_cells-merged.new.self ≡ with_part c.index_mut-group.result.now (drop n row))) width c.merge_cells-merged.ensures.ok)
