use Rattle.feedback_queue.proofs.ShareLemmas.{numbers_are_low, take_within}
use Rattle.feedback_queue.proofs.laws.a_take_keeps_the_shares.Goals as goal

pub returns : goal.returns
returns g c = λ taken new is gap i j within.
    take_within c.args.queue.now new taken gap i j (numbers_are_low c.args.queue.now.levels c.levels_are_numbered.ensures) c.requires is within
