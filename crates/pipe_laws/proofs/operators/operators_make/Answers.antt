use Rattle.pipe_laws.proofs.OperatorLemmas.{made_all}
use Rattle.pipe_laws.proofs.operators.operators_make.Goals as goal

pub returns : goal.returns
returns g c = λ run notes builds given are known took gave fit chain.
    (made_all g.O.Operator c.laws.ensures run notes builds c.args.all.now given are known took gave fit chain).0
