use Rattle.std.proofs.Common.{◌∙◌, sym, ap, subst}
use Rattle.bag_laws.proofs.BagLemmas.{same-flat_map}
use Rattle.bag_laws.proofs.WithinLemmas.{within-flat_map}
use Rattle.bag_laws.specs.Weights.{SameWeights, Within}
use Rattle.output_buffer.specs.InSpread.{spread_put_view}
use Rattle.output_buffer.specs.Seats.{SpreadPutState, HaveEnded, rows_of_piece, taken_by}
use Rattle.output_buffer.proofs.SeatLemmas.{spread_stopped}
use Rattle.output_buffer.proofs.spread_stop.stop_spread.Goals as goal

pub returns-clause-part : goal.returns-clause-part
returns-clause-part c =
    let i = c.put.invariant in
    let all = c.requires.all ∙ sym (ap (λ (s : SpreadPutState). s.takers) c.put.view_is) in
    subst (λ (s : SpreadPutState). Within (taken_by c.args.takes.items) s.put) c.put.view_is
    (spread_stopped (spread_put_view c.put.inside) c.args.takes.items _ _ _ i.few i.some i.most all i.rest c.join_takes.ensures.joined c.look_at_rest.ensures.rest.1).0

pub returns-clause-part_of_rows : goal.returns-clause-part_of_rows
returns-clause-part_of_rows c = within-flat_map rows_of_piece (returns-clause-part c)

pub returns-clause-ended : goal.returns-clause-ended
returns-clause-ended c =
    let i = c.put.invariant in
    let all = c.requires.all ∙ sym (ap (λ (s : SpreadPutState). s.takers) c.put.view_is) in
    subst (λ (s : SpreadPutState). HaveEnded s c.args.takes.items → SameWeights (taken_by c.args.takes.items) s.put) c.put.view_is
    (spread_stopped (spread_put_view c.put.inside) c.args.takes.items _ _ _ i.few i.some i.most all i.rest c.join_takes.ensures.joined c.look_at_rest.ensures.rest.1).1

pub returns-clause-rows : goal.returns-clause-rows
returns-clause-rows c = λ ended. same-flat_map rows_of_piece (returns-clause-ended c ended)
