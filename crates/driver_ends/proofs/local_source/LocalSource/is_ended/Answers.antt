use Rattle.std.proofs.Common.{rules}
use Rattle.driver_ends.proofs.local_source.LocalSource.is_ended.Goals as goal

pub returns-then-is_none-clause-ended : goal.returns-then-is_none-clause-ended
returns-then-is_none-clause-ended c = search rules

pub returns-then-is_none-clause-is : goal.returns-then-is_none-clause-is
returns-then-is_none-clause-is c = search rules

pub returns-else-is_none-clause-ended : goal.returns-else-is_none-clause-ended
returns-else-is_none-clause-ended c = search rules

pub returns-else-is_none-clause-is : goal.returns-else-is_none-clause-is
returns-else-is_none-clause-is c = search rules
