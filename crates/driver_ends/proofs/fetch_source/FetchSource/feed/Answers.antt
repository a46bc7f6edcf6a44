use Rattle.std.proofs.Common.{rules}
use Rattle.driver_ends.proofs.fetch_source.FetchSource.feed.Goals as goal

pub invariant_of-self : goal.invariant_of-self
invariant_of-self g c = search rules
