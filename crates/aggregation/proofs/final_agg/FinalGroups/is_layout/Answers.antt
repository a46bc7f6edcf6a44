use Rattle.std.proofs.Common.{◌≡◌, sym, ◌∙◌, arith}
use Rattle.std.specs.Prelude.{[], slice_index_or}
use Rattle.std.specs.List.{list_all}
use Rattle.aggregation.specs.Finals.{layout_in}
use Rattle.aggregation.specs.Layouts.{is_layout_row}
use Rattle.aggregation.proofs.FinalLemmas.{layout-told, rows-pass, rows-stop}
use Rattle.aggregation.proofs.final_agg.FinalGroups.is_layout.Goals as goal

pub returns-then-not-takes_part : goal.returns-then-not-takes_part
returns-then-not-takes_part c =
    let s = c.self.inside in
    let rows = c.args.page.now.rows in
    let row = slice_index_or rows c.loop-position.position [] in
    let test = is_layout_row (layout_in c.args.self.now) in
    let told : test row ≡ c.takes_part.result = layout-told c.args.self.now s.node s.width s.part s.taken s.groups row c.self.view_is c.self.invariant ∙ sym c.takes_part.ensures in
    rows-stop test rows c.loop-position.position (list_all test rows) (omega (arith, c.loop-position-test.true, c.len-position-end.ensures.len)) (told ∙ c.if-not-takes_part.true) c.loop-position.invariant

pub loop-position-preserved : goal.loop-position-preserved
loop-position-preserved c =
    let s = c.self.inside in
    let rows = c.args.page.now.rows in
    let row = slice_index_or rows c.loop-position.position [] in
    let test = is_layout_row (layout_in c.args.self.now) in
    let told : test row ≡ c.takes_part.result = layout-told c.args.self.now s.node s.width s.part s.taken s.groups row c.self.view_is c.self.invariant ∙ sym c.takes_part.ensures in
    rows-pass test rows c.loop-position.position (list_all test rows) (omega (arith, c.loop-position-test.true, c.len-position-end.ensures.len)) (told ∙ c.if-not-takes_part.false) c.loop-position.invariant
