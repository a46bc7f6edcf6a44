use Rattle.std.proofs.Common.{◌∙◌, ◌<◌, All, sym, ap, subst}
use Rattle.bag_laws.proofs.BagLemmas.{same-flat_map}
use Rattle.bag_laws.proofs.WithinLemmas.{within-flat_map}
use Rattle.bag_laws.specs.Weights.{SameWeights, Within}
use Rattle.output_buffer.specs.InGather.{gather_take_view}
use Rattle.output_buffer.specs.Edges.{end_count}
use Rattle.output_buffer.specs.Seats.{HasEnded, GatherPutState, GatherTakeState, put_by, rows_of_piece}
use Rattle.output_buffer.proofs.SeatLemmas.{gather_ends, gather_stopped}
use Rattle.output_buffer.proofs.gather_stop.stop_gather.Goals as goal

pub returns-clause-part : goal.returns-clause-part
returns-clause-part c =
    let all = c.requires.all ∙ sym (ap (λ (s : GatherTakeState). s.putters) c.take.view_is) in
    subst (λ (s : GatherTakeState). Within s.took (put_by c.args.puts.items)) c.take.view_is
    (gather_stopped (gather_take_view c.take.inside) c.args.puts.items _ _ _ c.take.invariant.few all c.take.invariant.rest c.join_puts.ensures.joined c.look_at_rest.ensures.rest.1).0

pub returns-clause-part_of_rows : goal.returns-clause-part_of_rows
returns-clause-part_of_rows c = within-flat_map rows_of_piece (returns-clause-part c)

pub returns-clause-ended : goal.returns-clause-ended
returns-clause-ended c =
    let all = c.requires.all ∙ sym (ap (λ (s : GatherTakeState). s.putters) c.take.view_is) in
    subst (λ (s : GatherTakeState). HasEnded s → SameWeights s.took (put_by c.args.puts.items)) c.take.view_is
    (gather_stopped (gather_take_view c.take.inside) c.args.puts.items _ _ _ c.take.invariant.few all c.take.invariant.rest c.join_puts.ensures.joined c.look_at_rest.ensures.rest.1).1

pub returns-clause-rows : goal.returns-clause-rows
returns-clause-rows c = λ ended. same-flat_map rows_of_piece (returns-clause-ended c ended)

pub returns-clause-ends : goal.returns-clause-ends
returns-clause-ends c =
    let all = c.requires.all ∙ sym (ap (λ (s : GatherTakeState). s.putters) c.take.view_is) in
    let take = gather_take_view c.take.inside in
    let stopped = gather_stopped take c.args.puts.items _ _ _ c.take.invariant.few all c.take.invariant.rest c.join_puts.ensures.joined c.look_at_rest.ensures.rest.1 in
    subst (λ (s : GatherTakeState). HasEnded s → All (λ (p : GatherPutState). 0 < end_count p.put) c.args.puts.items) c.take.view_is
    (gather_ends take c.args.puts.items _ _ all c.join_puts.ensures.joined stopped.1)
