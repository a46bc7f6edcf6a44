use Rattle.std.proofs.Common.{◌≡◌, ◌+◌, ◌≤◌, ap, ◌∙◌, arith}
use Rattle.relation_laws.specs.Aggregates.{most_group_rows}
use Rattle.accumulators.specs.Groups.{Group}
use Rattle.accumulators.proofs.GroupLemmas.{add-stays, can-add, group-added, view-added}
use Rattle.accumulators.proofs.accumulator.Accumulator.add.Goals as goal

pub add_each-requires-clause-can : goal.add_each-requires-clause-can
add_each-requires-clause-can g c =
    let s = c.self.inside in
    let few : s.rows + 1 ≤ most_group_rows = omega (arith, c.min-rows.ensures, c.if-rows-gt-MOST_ROWS.false) in
    can-add s.rows s.states.items s.states.items c.args.self.now c.self.view_is c.self.invariant (g.C.Cells.values c.args.cells.now) few c.requires

pub invariant_of-self-2 : goal.invariant_of-self-2
invariant_of-self-2 g c =
    let s = c.self.inside in
    let few : s.rows + 1 ≤ most_group_rows = omega (arith, c.min-rows.ensures, c.if-rows-gt-MOST_ROWS.false) in
    let rows : c.min-rows.result ≡ s.rows + 1 = omega (arith, c.min-rows.ensures, c.if-rows-gt-MOST_ROWS.false) in
    group-added s.rows s.states.items c.add_each.new.states.items c.args.self.now c.self.view_is c.self.invariant (g.C.Cells.values c.args.cells.now)
    c.min-rows.result rows few c.requires c.add_each.ensures

pub returns-clause-ok : goal.returns-clause-ok
returns-clause-ok g c =
    let s = c.self.inside in
    let few : s.rows + 1 ≤ most_group_rows = omega (arith, c.min-rows.ensures, c.if-rows-gt-MOST_ROWS.false) in
    let rows : c.min-rows.result ≡ s.rows + 1 = omega (arith, c.min-rows.ensures, c.if-rows-gt-MOST_ROWS.false) in
    view-added s.rows s.states.items c.add_each.new.states.items c.args.self.now c.self.view_is c.self.invariant (g.C.Cells.values c.args.cells.now)
    c.min-rows.result rows few c.add_each.ensures

pub returns-clause-same : goal.returns-clause-same
returns-clause-same g c =
    let s = c.self.inside in
    let stays = add-stays s.states.items c.add_each.new.states.items (g.C.Cells.values c.args.cells.now) c.add_each.ensures in
    (stays.0 ∙ ap (λ (x : Group). x.calls) c.self.view_is, stays.1 ∙ ap (λ (x : Group). x.kinds) c.self.view_is)
