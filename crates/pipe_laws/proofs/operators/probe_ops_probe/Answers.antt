use Rattle.pipe_laws.proofs.LookupLemmas.{probe_probes}
use Rattle.pipe_laws.proofs.operators.probe_ops_probe.Goals as goal

pub returns : goal.returns
returns c = λ sources. probe_probes c.args.op.now c.args.keys.now c.args.left c.args.types.now c.requires sources
