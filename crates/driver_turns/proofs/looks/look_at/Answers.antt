use Rattle.stage_moves.proofs.CountLemmas.{Counted-looked}
use Rattle.driver_turns.proofs.TurnLemmas.{WentOn-looked}
use Rattle.driver_turns.proofs.looks.look_at.Goals as goal

pub returns-clause-went : goal.returns-clause-went
returns-clause-went g c = λ ok X Y ended. WentOn-looked g.S.Operator c.laws.ensures c.args.stages.now.items c.args.place c.index_mut.result.now c.look.new.op X Y ended
    c.requires c.index_mut.ensures.value (c.look.ensures.looked ok) c.look.ensures.looks

pub returns-clause-counts : goal.returns-clause-counts
returns-clause-counts g c = λ ok X Y. Counted-looked g.S.Operator c.args.stages.now.items c.args.place c.index_mut.result.now c.look.new.op X Y
    c.requires c.index_mut.ensures.value (c.look.ensures.looked ok)
