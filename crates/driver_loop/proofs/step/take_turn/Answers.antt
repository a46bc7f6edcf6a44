use Rattle.driver_loop.specs.Ends.{target_finished}
use Rattle.driver_loop.proofs.StepLemmas.{unfinished}
use Rattle.driver_loop.proofs.step.take_turn.Goals as goal

pub returns-clause-unfinished : goal.returns-clause-unfinished
returns-clause-unfinished g c = unfinished c.turn-turned.result.outcome (target_finished c.turn-turned.new.target) c.turn-turned.ensures.failed
