use Rattle.std.proofs.Common.{◌-◌, ◌++◌, ◌∷◌, [], length, ap, sym, ◌∙◌, subst}
use Rattle.page_window.specs.Windows.{from_token}
use Rattle.exchange_client.specs.Clients.{accepted, given_away, kept_as}
use Rattle.exchange_client.specs.Fetches.{MayArrive, KeepsTokens, rest}
use Rattle.exchange_client.specs.Steps.{latest}
use Rattle.exchange_client.proofs.FetchLemmas.{fresh_arrives, keeps_given, rest_accepted}
use Rattle.exchange_client.proofs.fetch.Fetch.give_fresh.Goals as goal

pub invariant_of-self-2 : goal.invariant_of-self-2
invariant_of-self-2 g c =
    let f = c.self.inside in
    let now = c.args.self.now in
    let r = kept_as c.args.fresh in
    let keeps : KeepsTokens now.window now.client now.most now.kept = subst (λ s. KeepsTokens s.window s.client s.most s.kept) c.self.view_is c.self.invariant in
    let may : MayArrive f.window f.client.next r = subst (λ s. MayArrive s.window s.client.next r) (sym c.self.view_is) (subst (MayArrive now.window now.client.next) (sym c.requires) (fresh_arrives now keeps)) in
    subst (λ k. KeepsTokens f.window k f.most c.keep.new.self) (sym c.in-Ok.ensures.ok)
    (subst (KeepsTokens f.window (accepted f.client r) f.most) (sym (c.in_ok-keep.ensures.ok ∙ ap (λ k. latest (f.kept ++ k ∷ [])) c.given.ensures))
    (keeps_given f.window f.client f.most f.kept r (length (f.kept ++ given_away r ∷ []) - 8) c.self.invariant c.in-Ok.ensures.answer.0 may))

pub returns-clause-rest : goal.returns-clause-rest
returns-clause-rest g c =
    let f = c.self.inside in
    let now = c.args.self.now in
    let r = kept_as c.args.fresh in
    let keeps : KeepsTokens now.window now.client now.most now.kept = subst (λ s. KeepsTokens s.window s.client s.most s.kept) c.self.view_is c.self.invariant in
    let may : MayArrive f.window f.client.next r = subst (λ s. MayArrive s.window s.client.next r) (sym c.self.view_is) (subst (MayArrive now.window now.client.next) (sym c.requires) (fresh_arrives now keeps)) in
    ap rest (sym c.self.view_is)
    ∙ rest_accepted f.window f.client f.most f.kept c.self.invariant r c.in-Ok.ensures.answer.0 may
    ∙ ap (λ ys. ys ++ from_token f.window r.next) (sym c.in-Ok.ensures.answer.1)
    ∙ ap (λ k. c.in-Ok.pages ++ from_token f.window k.next) (sym c.in-Ok.ensures.ok)
