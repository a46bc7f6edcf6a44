use Rattle.std.proofs.Common.{rules}
use Rattle.page_processor.proofs.filter.keep_true.Goals as goal

pub returns-clause-failure : goal.returns-clause-failure
returns-clause-failure c = search rules
