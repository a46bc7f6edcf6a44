use Rattle.std.proofs.Common.{rules}
use Rattle.driver_ends.proofs.fetch_source.FetchSource.ask.Goals as goal

pub invariant_of-self-2 : goal.invariant_of-self-2
invariant_of-self-2 g c = search rules

pub returns-clause-left : goal.returns-clause-left
returns-clause-left g c = search rules

pub returns-clause-missed : goal.returns-clause-missed
returns-clause-missed g c = search rules
