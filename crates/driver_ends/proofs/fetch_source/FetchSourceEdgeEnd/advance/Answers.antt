use Rattle.std.proofs.Common.{◌≡◌, false, rules, subst, sym, ap, ◌∙◌}
use Rattle.driver_ends.specs.Fetching.{FetchingState, HasFetchTaken, fetch_taken}
use Rattle.driver_ends.proofs.FetchLemmas.{handed_through, kept_below, taken_through}
use Rattle.driver_ends.proofs.fetch_source.FetchSourceEdgeEnd.advance.Goals as goal

pub invariant_of-self : goal.invariant_of-self
invariant_of-self g c =
    let going : c.self.inside.fetch.window.is_ended ≡ false = search rules in
    kept_below _ _ _ _ c.advance.ensures.taken going c.self.invariant

pub invariant_of-self-2 : goal.invariant_of-self-2
invariant_of-self-2 g c =
    let going : c.self.inside.fetch.window.is_ended ≡ false = search rules in
    kept_below _ _ _ _ c.advance.ensures.taken going c.self.invariant

pub returns-in_err-feed-clause-taken : goal.returns-in_err-feed-clause-taken
returns-in_err-feed-clause-taken g c = λ taken has.
    let old : FetchingState = record { local = c.self.inside.local; fetch = c.self.inside.fetch; pages = c.self.inside.pages } in
    taken_through old c.advance.new.self c.feed.new.self c.advance.ensures.taken c.feed.ensures.seat c.feed.ensures.left taken
    (subst (λ (s : FetchingState). HasFetchTaken s taken) (sym c.self.view_is) has)

pub returns-in_err-feed-clause-handed : goal.returns-in_err-feed-clause-handed
returns-in_err-feed-clause-handed g c =
    let old : FetchingState = record { local = c.self.inside.local; fetch = c.self.inside.fetch; pages = c.self.inside.pages } in
    handed_through old c.advance.new.self c.feed.new.self c.self.invariant c.advance.ensures.taken c.feed.ensures.seat c.feed.ensures.left ∙ ap fetch_taken c.self.view_is

pub returns-clause-taken : goal.returns-clause-taken
returns-clause-taken g c = λ taken has.
    let old : FetchingState = record { local = c.self.inside.local; fetch = c.self.inside.fetch; pages = c.self.inside.pages } in
    taken_through old c.advance.new.self c.feed.new.self c.advance.ensures.taken c.feed.ensures.seat c.feed.ensures.left taken
    (subst (λ (s : FetchingState). HasFetchTaken s taken) (sym c.self.view_is) has)
