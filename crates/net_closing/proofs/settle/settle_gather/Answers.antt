use Rattle.std.proofs.Common.{◌∙◌, sym}
use Rattle.driver_loop.specs.Seats.{gather_take_of}
use Rattle.driver_net_laws.specs.Settled.{gather_takes_in}
use Rattle.std.proofs.Common.{map}
use Rattle.plan_layout.specs.Pipes.{pipe_view}
use Rattle.net_closing.proofs.BackLemmas.{begun, gather_back, gathers_settle, tasked}
use Rattle.driver_net_laws.specs.Settled.{puts_into}
use Rattle.net_closing.proofs.settle.settle_gather.Goals as goal

pub stop_gather-requires-clause-edge : goal.stop_gather-requires-clause-edge
stop_gather-requires-clause-edge c =
    let s = c.requires.taker in
    let drivers = s.net.drivers in
    let layout = map pipe_view c.args.layout.now in
    let pipe = pipe_view c.args.pipe.now in
    gathers_settle layout c.args.parts.now pipe c.args.of c.args.task s c.requires.there c.in_ok-collect_puts.ensures.tasks c.collect_puts.new.seats.items c.in_ok-take.take
    (begun c.new-puts.result.items c.collect_puts.new.seats.items (puts_into layout drivers c.args.of c.args.task) c.new-puts.ensures.items (c.in_ok-collect_puts.ensures.seats drivers s.net.left.puts))
    (sym (tasked (λ d. gather_take_of d.source) drivers pipe c.args.task c.new-takes.result.items c.collect_lanes.new.seats.items c.new-takes.ensures.items
    (c.in_ok-collect_lanes.ensures.seats gather_takes_in drivers s.net.left.gather_takes)) ∙ c.in_ok-take.ensures)

pub returns-clause-back : goal.returns-clause-back
returns-clause-back c = λ drivers left.
    let layout = map pipe_view c.args.layout.now in
    let pipe = pipe_view c.args.pipe.now in
    gather_back layout drivers c.args.of c.args.task pipe c.collect_puts.new.seats.items c.in_ok-take.take
    (begun c.new-puts.result.items c.collect_puts.new.seats.items (puts_into layout drivers c.args.of c.args.task) c.new-puts.ensures.items (c.in_ok-collect_puts.ensures.seats drivers left.puts))
    (sym (tasked (λ d. gather_take_of d.source) drivers pipe c.args.task c.new-takes.result.items c.collect_lanes.new.seats.items c.new-takes.ensures.items
    (c.in_ok-collect_lanes.ensures.seats gather_takes_in drivers left.gather_takes)) ∙ c.in_ok-take.ensures) c.stop_gather.ensures.part c.stop_gather.ensures.ended c.stop_gather.ensures.ends
