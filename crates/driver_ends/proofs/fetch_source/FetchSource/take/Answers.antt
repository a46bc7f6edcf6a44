use Rattle.std.proofs.Common.{◌≡◌, ◌++◌, subst}
use Rattle.std.specs.Prelude.{IfSome}
use Rattle.driver_ends.specs.Fetching.{FetchingState, fetch_taken}
use Rattle.driver_ends.proofs.FetchLemmas.{handed_if, kept_behind}
use Rattle.driver_ends.proofs.fetch_source.FetchSource.take.Goals as goal

pub invariant_of-self : goal.invariant_of-self
invariant_of-self g c = kept_behind _ _ _ _ c.take_first.result c.take_first.ensures c.self.invariant

pub returns-clause-handed : goal.returns-clause-handed
returns-clause-handed g c =
    let new : FetchingState = record { local = c.self.inside.local; fetch = c.self.inside.fetch; pages = c.take_first.new.self } in
    subst (λ (s : FetchingState). IfSome c.take_first.result (λ page. fetch_taken new ≡ fetch_taken s ++ page.rows)) c.self.view_is
    (handed_if _ _ _ _ c.take_first.result c.take_first.ensures c.self.invariant)
