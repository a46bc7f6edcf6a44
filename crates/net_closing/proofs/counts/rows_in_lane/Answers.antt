use Rattle.std.proofs.Common.{◌∙◌, ap, sym}
use Rattle.std.proofs.lemmas.Result.{IfOk-weaker}
use Rattle.driver_loop.specs.Turns.{passed_of}
use Rattle.driver_net_laws.specs.Settled.{of_number}
use Rattle.net_closing.specs.Left.{at_place}
use Rattle.net_closing.proofs.CountLemmas.{counted}
use Rattle.net_closing.proofs.counts.rows_in_lane.Goals as goal

pub returns : goal.returns
returns c =
    IfOk-weaker c.count_at.result _ _ (λ rows there. λ drivers held.
    ap (of_number (at_place passed_of c.args.place) drivers) (sym c.in_ok-number.ensures)
    ∙ counted drivers c.args.passed.now c.in_ok-number.field-0 c.args.place rows c.index-passed-number.result held c.if-number-passed.false c.index-passed-number.is there) c.count_at.ensures
