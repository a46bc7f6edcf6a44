use Rattle.net_laws.proofs.OperatorLemmas.{filter_drops_exactly}
use Rattle.net_laws.proofs.operators.waiting_filter_ops_drop_exactly.Goals as goal

pub returns : goal.returns
returns c = λ w. filter_drops_exactly c.args.op.now w
