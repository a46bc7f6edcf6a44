use Rattle.std.proofs.Common.{IfOk, subst}
use Rattle.exchange_client.specs.Steps.{HasStepped}
use Rattle.exchange_client.proofs.StepLemmas.{steps_by}
use Rattle.exchange_client.proofs.fetch.Fetch.deliver.Goals as goal

pub returns-clause-step : goal.returns-clause-step
returns-clause-step g c =
    subst (λ s. IfOk c.give.result (λ pages. HasStepped c.args.due s pages c.give.new.self)) c.self.view_is
    (steps_by _ _ _ _ c.give.result c.give.new.self c.turn_of-delivery.ensures c.give.ensures.pages c.give.ensures.after)
