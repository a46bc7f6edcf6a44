use Rattle.std.proofs.Common.{◌∷◌, [], ◌∙◌, ap, sym, append-nil}
use Rattle.driver_net_laws.specs.Settled.{of_lane, of_number}
use Rattle.plan_layout.specs.Pipes.{pipe_view}
use Rattle.net_closing.specs.Left.{at_place}
use Rattle.net_closing.proofs.HeldLemmas.{fewer_than_fewer}
use Rattle.net_closing.proofs.LeftLemmas.{left_fewer, one_taken}
use Rattle.net_closing.proofs.CollectLemmas.{gathered_more}
use Rattle.net_closing.proofs.collect.collect_lanes.Goals as goal

pub loop-lane-init : goal.loop-lane-init
loop-lane-init g c = record {
  rest = record { each = λ number place seat is. is };
  seats = λ of drivers left. sym (append-nil c.args.seats.now.items);
}

pub loop-lane-preserved : goal.loop-lane-preserved
loop-lane-preserved g c =
    let inv = c.loop-lane.invariant in
    let old = c.args.rows.now.items in
    let mid = c.loop-lane.rows.items in
    let seat = c.in_ok-take_seat.field-0 in
    record {
      rest = fewer_than_fewer old mid c.take_seat.new.rows.items inv.rest c.in_ok-take_seat.ensures.rest;
      seats = λ of drivers left.
          gathered_more c.args.seats.now.items c.loop-lane.seats.items c.push.new.self.items (seat ∷ []) c.loop-lane.lane
          (of_lane (at_place of c.args.place) drivers (pipe_view c.args.pipe.now) c.args.task) (inv.seats of drivers left) c.in_ok-push.ensures.items
          (ap (of_number (at_place of c.args.place) drivers) (sym c.in_ok-number.ensures)
          ∙ one_taken of drivers mid c.in_ok-number.number c.args.place seat (left_fewer of drivers old mid left inv.rest) c.in_ok-take_seat.ensures.seat);
    }
