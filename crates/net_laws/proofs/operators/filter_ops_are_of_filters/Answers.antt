use Rattle.net_laws.proofs.OperatorLemmas.{filter_is_of}
use Rattle.net_laws.proofs.operators.filter_ops_are_of_filters.Goals as goal

pub returns : goal.returns
returns c = λ f column waits keys. filter_is_of c.args.op.now c.filter_ops_drop.ensures f column waits keys
