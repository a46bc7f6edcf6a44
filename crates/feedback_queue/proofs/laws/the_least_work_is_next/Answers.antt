use Rattle.feedback_queue.specs.Levels.{work_of}
use Rattle.feedback_queue.specs.Queue.{waiting_at}
use Rattle.feedback_queue.proofs.PickLemmas.{best_is_first}
use Rattle.feedback_queue.proofs.laws.the_least_work_is_next.Goals as goal

pub returns : goal.returns
returns g c = best_is_first work_of (waiting_at c.args.queue.now.levels c.args.level)
