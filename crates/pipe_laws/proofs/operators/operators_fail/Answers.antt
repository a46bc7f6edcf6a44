use Rattle.pipe_laws.proofs.OperatorLemmas.{fails_of}
use Rattle.pipe_laws.proofs.operators.operators_fail.Goals as goal

pub returns : goal.returns
returns g c = λ node kind run notes given are ended took fit i s lt at fails.
    fails_of g.O.Operator c.laws.ensures node kind run notes c.args.all.now given are ended took fit i s lt at fails
