use Rattle.std.proofs.Common.{◌++◌, ap, sym, ◌∙◌, subst}
use Rattle.page_window.specs.Windows.{from_token}
use Rattle.exchange_client.specs.Clients.{kept_as}
use Rattle.exchange_client.specs.Fetches.{MayArrive, KeepsTokens, rest}
use Rattle.exchange_client.proofs.FetchLemmas.{keeps_accepted, rest_accepted}
use Rattle.exchange_client.proofs.fetch.Fetch.accept.Goals as goal

pub invariant_of-self : goal.invariant_of-self
invariant_of-self g c =
    let f = c.self.inside in
    let r = kept_as c.args.reply in
    let may : MayArrive f.window f.client.next r = subst (λ s. MayArrive s.window s.client.next r) (sym c.self.view_is) c.requires in
    subst (λ k. KeepsTokens f.window k f.most f.kept) (sym c.in-Ok.ensures.ok) (keeps_accepted f.window f.client f.most f.kept c.self.invariant r c.in-Ok.ensures.answer.0 may)

pub returns-in-Ok-clause-rest : goal.returns-in-Ok-clause-rest
returns-in-Ok-clause-rest g c =
    let f = c.self.inside in
    let r = kept_as c.args.reply in
    let may : MayArrive f.window f.client.next r = subst (λ s. MayArrive s.window s.client.next r) (sym c.self.view_is) c.requires in
    ap rest (sym c.self.view_is)
    ∙ rest_accepted f.window f.client f.most f.kept c.self.invariant r c.in-Ok.ensures.answer.0 may
    ∙ ap (λ ys. ys ++ from_token f.window r.next) (sym c.in-Ok.ensures.answer.1)
    ∙ ap (λ k. c.in-Ok.pages ++ from_token f.window k.next) (sym c.in-Ok.ensures.ok)
