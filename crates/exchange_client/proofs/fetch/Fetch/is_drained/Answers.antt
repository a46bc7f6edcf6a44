use Rattle.std.proofs.Common.{◌≡◌, length, ap, sym, ◌∙◌, subst, arith}
use Rattle.std.proofs.lemmas.Bool.{eqb-true, eq-eqb}
use Rattle.page_window.specs.Windows.{end_of}
use Rattle.exchange_client.specs.Fetches.{KeepsTokens}
use Rattle.exchange_client.proofs.FetchLemmas.{rest_length, rest_at_end}
use Rattle.exchange_client.proofs.fetch.Fetch.is_drained.Goals as goal

pub returns : goal.returns
returns g c =
    let f = c.args.self.now in
    let keeps : KeepsTokens f.window f.client f.most f.kept = subst (λ s. KeepsTokens s.window s.client s.most s.kept) c.self.view_is c.self.invariant in
    let next : c.next_token.result ≡ f.client.next = c.next_token.ensures ∙ ap (λ s. s.client.next) c.self.view_is in
    let end : c.end_token.result ≡ end_of f.window = c.end_token.ensures ∙ ap (λ s. end_of s.window) c.self.view_is in (
      (λ same. rest_at_end f.window f.client.next (sym next ∙ eqb-true c.next_token.result c.end_token.result same ∙ end)),
      (λ none. eq-eqb c.next_token.result c.end_token.result (omega (arith, next, end, ap length none, rest_length f.window f.client.next keeps.low keeps.high))),
    )
