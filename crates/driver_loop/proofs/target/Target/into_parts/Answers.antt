use Rattle.std.proofs.Common.{rules}
use Rattle.driver_loop.proofs.target.Target.into_parts.Goals as goal

pub returns-in-Build-clause-lookups : goal.returns-in-Build-clause-lookups
returns-in-Build-clause-lookups c = search rules

pub returns-in-Put-clause-puts : goal.returns-in-Put-clause-puts
returns-in-Put-clause-puts c = search rules
