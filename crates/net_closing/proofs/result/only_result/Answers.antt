use Rattle.std.proofs.Common.{arith, map}
use Rattle.plan_layout.specs.Pipes.{pipe_view}
use Rattle.std.proofs.lemmas.List.{length-map}
use Rattle.net_closing.proofs.ResultLemmas.{only_one}
use Rattle.net_closing.proofs.result.only_result.Goals as goal

pub returns-clause-only : goal.returns-clause-only
returns-clause-only c =
    let same = length-map c.args.layout.now pipe_view in
    let first = c.result_from-first in
    only_one (map pipe_view c.args.layout.now) first.result c.result_from.result (omega (arith, same, c.if-first-layout.false)) first.ensures.none first.ensures.gives c.result_from.ensures.none
    (omega (arith, same, c.if-result_from-layout.false))
