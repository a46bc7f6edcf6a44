use Rattle.std.proofs.Common.{◌+◌, ◌≤◌, refl, arith}
use Rattle.relation_laws.specs.Aggregates.{most_group_rows}
use Rattle.accumulators.proofs.GroupLemmas.{can-take, group-taken, view-added}
use Rattle.accumulators.proofs.accumulator.Accumulator.take.Goals as goal

pub take_each-requires : goal.take_each-requires
take_each-requires g c =
    let s = c.self.inside in
    let few : s.rows + 1 ≤ most_group_rows = omega (arith, c.if-rows-ge-MOST_ROWS.false) in
    can-take s.rows s.states.items s.states.items c.args.self.now c.self.view_is c.self.invariant (g.C.Cells.values c.args.cells.now) few

pub invariant_of-self-2 : goal.invariant_of-self-2
invariant_of-self-2 g c =
    let s = c.self.inside in
    let few : s.rows + 1 ≤ most_group_rows = omega (arith, c.if-rows-ge-MOST_ROWS.false) in
    group-taken s.rows s.states.items c.take_each.new.states.items c.args.self.now c.self.view_is c.self.invariant (g.C.Cells.values c.args.cells.now)
    (s.rows + 1) refl few (c.take_each.ensures.fits c.if-not-take_each.false) (c.take_each.ensures.value c.if-not-take_each.false)

pub returns-clause-ok : goal.returns-clause-ok
returns-clause-ok g c =
    let s = c.self.inside in
    let few : s.rows + 1 ≤ most_group_rows = omega (arith, c.if-rows-ge-MOST_ROWS.false) in
    view-added s.rows s.states.items c.take_each.new.states.items c.args.self.now c.self.view_is c.self.invariant (g.C.Cells.values c.args.cells.now)
    (s.rows + 1) refl few (c.take_each.ensures.value c.if-not-take_each.false)
