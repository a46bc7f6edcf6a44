use Rattle.std.proofs.Common.{◌≡◌, ◌<◌, length, get_or, refl, sym, ◌∙◌, arith}
use Rattle.std.proofs.lemmas.List.{get_or-map, length-map}
use Rattle.sql_values.specs.Cells.{cell, cut}
use Rattle.group_index.specs.Keys.{key_at}
use Rattle.group_index.proofs.KeyLemmas.{cell-there, cells-differ, cells-same, key-wide}
use Rattle.group_index.proofs.index.GroupIndex.is_key_of.Goals as goal

pub returns-then-not-is_cell_of : goal.returns-then-not-is_cell_of
returns-then-not-is_cell_of g c =
    let row = g.C.Cells.values c.args.cells.now in
    let at = c.loop-column.column in
    let key = key_at c.args.self.now c.args.place in
    let columns = c.args.columns.now in
    let wide : length key ≡ c.self.inside.width = key-wide c.self.inside.width c.self.inside.keys c.args.self.now c.args.place c.self.view_is c.requires c.self.invariant.1 in
    let within : at < length key = omega (arith, wide, c.loop-column-test.true) in
    let level : length key ≡ length (cut columns row) = omega (arith, wide, c.if-self-columns.false, length-map columns (cell row)) in
    sym (c.loop-column.invariant
    ∙ cells-differ key (cut columns row) at (cell key at) (cell row (get_or columns at 0)) (cell row 0) within level (cell-there key at (cell key at) refl within)
    (sym (get_or-map (cell row) columns at 0 (cell row 0) (omega (arith, within, level, length-map columns (cell row))))) (sym c.if-not-is_cell_of.ensures))

pub loop-column-preserved : goal.loop-column-preserved
loop-column-preserved g c =
    let row = g.C.Cells.values c.args.cells.now in
    let at = c.loop-column.column in
    let key = key_at c.args.self.now c.args.place in
    let columns = c.args.columns.now in
    let wide : length key ≡ c.self.inside.width = key-wide c.self.inside.width c.self.inside.keys c.args.self.now c.args.place c.self.view_is c.requires c.self.invariant.1 in
    let within : at < length key = omega (arith, wide, c.loop-column-test.true) in
    let level : length key ≡ length (cut columns row) = omega (arith, wide, c.if-self-columns.false, length-map columns (cell row)) in
    c.loop-column.invariant
    ∙ cells-same key (cut columns row) at (cell key at) (cell row (get_or columns at 0)) (cell row 0) within level (cell-there key at (cell key at) refl within)
    (sym (get_or-map (cell row) columns at 0 (cell row 0) (omega (arith, within, level, length-map columns (cell row))))) (sym c.if-not-is_cell_of.ensures)
