use Rattle.sieve_laws.proofs.FilterOpLemmas.{filter_drops}
use Rattle.sieve_laws.proofs.filters.filter_ops_drop.Goals as goal

pub returns : goal.returns
returns c = filter_drops c.args.op.now
