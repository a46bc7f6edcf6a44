use Rattle.std.proofs.Common.{◌-◌, ◌++◌, ◌∷◌, [], length, sym, ◌∙◌, subst}
use Rattle.exchange_client.specs.Fetches.{MayArrive, KeepsTokens}
use Rattle.exchange_client.proofs.FetchLemmas.{fresh_arrives, keeps_latest}
use Rattle.exchange_client.proofs.fetch.Fetch.keep.Goals as goal

pub invariant_of-self-2 : goal.invariant_of-self-2
invariant_of-self-2 g c =
    let f = c.self.inside in
    let now = c.args.self.now in
    let r = c.in_ok-kept.kept in
    let keeps : KeepsTokens now.window now.client now.most now.kept = subst (λ s. KeepsTokens s.window s.client s.most s.kept) c.self.view_is c.self.invariant in
    let may : MayArrive f.window f.client.next r = subst (λ s. MayArrive s.window s.client.next r) (sym c.self.view_is) (subst (MayArrive now.window now.client.next) (sym (c.in_ok-kept.ensures ∙ c.requires)) (fresh_arrives now keeps)) in
    subst (λ kept. KeepsTokens f.window f.client f.most kept) (sym c.in_ok-keep.ensures.ok) (keeps_latest f.window f.client f.most f.kept c.self.invariant r (length (f.kept ++ r ∷ []) - 8) may)
