use Rattle.std.proofs.Common.{◌∙◌, arith, map, sym}
use Rattle.driver_loop.specs.Seats.{spread_take_of}
use Rattle.driver_net_laws.specs.Settled.{deals_into, spread_takes_in}
use Rattle.plan_layout.specs.Pipes.{pipe_view}
use Rattle.net_closing.proofs.BackLemmas.{begun, some_if, spread_back, spreads_settle, tasked}
use Rattle.net_closing.proofs.settle.settle_spread.Goals as goal

pub stop_spread-requires-clause-edge : goal.stop_spread-requires-clause-edge
stop_spread-requires-clause-edge c =
    let s = c.requires.reader in
    let drivers = s.net.drivers in
    let layout = map pipe_view c.args.layout.now in
    let pipe = pipe_view c.args.pipe.now in
    spreads_settle layout c.args.parts.now pipe c.args.at c.args.task s c.requires.there c.in_ok-collect_deals.ensures.tasks c.in_ok-put.put c.collect_lanes.new.seats.items
    (sym (begun c.new-puts.result.items c.collect_deals.new.seats.items (deals_into layout drivers c.args.at c.args.task) c.new-puts.ensures.items
    (c.in_ok-collect_deals.ensures.seats drivers s.net.left.deals)) ∙ c.in_ok-put.ensures)
    (tasked (λ d. spread_take_of d.source) drivers pipe c.args.task c.new-takes.result.items c.collect_lanes.new.seats.items c.new-takes.ensures.items
    (c.in_ok-collect_lanes.ensures.seats spread_takes_in drivers s.net.left.spread_takes))

pub returns-clause-back : goal.returns-clause-back
returns-clause-back c = λ drivers left.
    let layout = map pipe_view c.args.layout.now in
    let pipe = pipe_view c.args.pipe.now in
    let takes = c.collect_lanes.new.seats in
    spread_back layout drivers c.args.at c.args.task pipe c.in_ok-put.put takes.items
    (sym (begun c.new-puts.result.items c.collect_deals.new.seats.items (deals_into layout drivers c.args.at c.args.task) c.new-puts.ensures.items
    (c.in_ok-collect_deals.ensures.seats drivers left.deals)) ∙ c.in_ok-put.ensures)
    (tasked (λ d. spread_take_of d.source) drivers pipe c.args.task c.new-takes.result.items takes.items c.new-takes.ensures.items (c.in_ok-collect_lanes.ensures.seats spread_takes_in drivers left.spread_takes))
    (omega (arith, some_if takes.len c.if-is_empty.ensures, takes.ok.0)) (omega (arith, c.len.ensures, c.takers.ensures, takes.ok.0, c.if-len-takers.false)) c.stop_spread.ensures.part c.stop_spread.ensures.ended
