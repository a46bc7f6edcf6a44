use Rattle.feedback_queue.proofs.ShareLemmas.{numbers_are_low, offer_within}
use Rattle.feedback_queue.proofs.laws.an_offer_keeps_the_shares.Goals as goal

pub returns : goal.returns
returns g c = λ gap i j within.
    offer_within c.args.queue.now c.args.work c.args.waiter.now gap i j (numbers_are_low c.args.queue.now.levels c.levels_are_numbered.ensures) c.requires within
