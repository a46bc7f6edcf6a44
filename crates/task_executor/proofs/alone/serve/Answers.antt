use Rattle.task_executor.proofs.LaterLemmas.{all_same}
use Rattle.task_executor.proofs.TurnLemmas.{later_at, served}
use Rattle.task_executor.proofs.alone.serve.Goals as goal

pub returns-then-is_finished-clause-later : goal.returns-then-is_finished-clause-later
returns-then-is_finished-clause-later g c = all_same c.args.drivers.now.items

pub returns-clause-later : goal.returns-clause-later
returns-clause-later g c =
    later_at c.args.drivers.now.items c.args.place c.index_mut.result.now c.give_turn.new.driver c.requires.there c.index_mut.ensures.value c.give_turn.ensures.later

pub returns-clause-done : goal.returns-clause-done
returns-clause-done g c =
    served c.give_turn.result c.args.drivers.now.items c.args.place c.give_turn.new.driver c.requires.there c.requires.unfailed c.give_turn.ensures.done
