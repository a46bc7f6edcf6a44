use Rattle.std.proofs.Common.{◌+◌, ℕ, List, subst, sym}
use Rattle.output_buffer.specs.Seats.{GatherPutState}
use Rattle.seat_stocks.specs.Shelves.{IsOn}
use Rattle.net_parts.proofs.SeatLemmas.{SeatsFor, no_seats, one_seat}
use Rattle.net_parts.proofs.target.seats_to.Goals as goal

pub loop-task-init : goal.loop-task-init
loop-task-init c =
    let firsts = c.args.making.now.lanes.now.gathers.items in
    subst (SeatsFor firsts c.args.at c.args.stock.now 0 c.args.stock.now) (sym c.new-seats.ensures.items) (no_seats firsts c.args.at c.args.stock.now)

pub loop-task-preserved : goal.loop-task-preserved
loop-task-preserved c =
    let m = c.args.making.now in
    let firsts = m.lanes.now.gathers.items in
    let now = c.loop-task.stock in
    let next = c.put.new.self in
    let seat = c.in_ok-put.field-0 in
    let on = subst (λ (lane : ℕ). IsOn now.puts lane seat) c.in_ok-lane.ensures c.in_ok-put.ensures.taken in
    subst (λ (seats : List GatherPutState). SeatsFor firsts c.args.at c.args.stock.now (c.loop-task.task + 1) next seats) (sym {A = List GatherPutState} c.in_ok-push.ensures.items)
    (one_seat m firsts c.args.at c.args.stock.now c.loop-task.task now next c.loop-task.seats.items seat c.requires.stocked c.loop-task.invariant c.in_ok-put.ensures.left on)
