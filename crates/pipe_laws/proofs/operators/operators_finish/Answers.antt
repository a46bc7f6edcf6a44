use Rattle.pipe_laws.proofs.FinishLemmas.{finish_all}
use Rattle.pipe_laws.proofs.operators.operators_finish.Goals as goal

pub returns : goal.returns
returns g c = λ run notes builds given are agree ended took gave turns linked fit over.
    (finish_all g.O.Operator c.laws.ensures run notes builds c.args.all.now given are agree ended took gave turns linked fit over).0
