use Rattle.std.proofs.Common.{rules}
use Rattle.feedback_queue.proofs.best.better.Goals as goal

pub returns-in-Some-Some-clause-value : goal.returns-in-Some-Some-clause-value
returns-in-Some-Some-clause-value c = search rules
