use Rattle.std.proofs.Common.{◌≡◌, false, ap, ◌∙◌}
use Rattle.exchange_client.proofs.FetchLemmas.{keeps_put}
use Rattle.exchange_client.proofs.fetch.Fetch.push.Goals as goal

pub invariant_of-self : goal.invariant_of-self
invariant_of-self g c =
    let f = c.self.inside in
    let going : f.window.is_ended ≡ false = ap (λ s. s.window.is_ended) c.self.view_is ∙ c.requires.going in
    keeps_put f.window f.client f.most f.kept c.self.invariant c.push.result c.push.new.self c.args.page going c.push.ensures.ok c.push.ensures.err
