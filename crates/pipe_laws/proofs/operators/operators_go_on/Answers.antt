use Rattle.pipe_laws.proofs.OperatorLemmas.{stood_at}
use Rattle.pipe_laws.proofs.operators.operators_go_on.Goals as goal

pub returns : goal.returns
returns g c = λ run notes given are ended took gave turns linked fit.
    (stood_at g.O.Operator c.laws.ensures run notes c.args.all.now given are ended took gave turns linked fit).0
