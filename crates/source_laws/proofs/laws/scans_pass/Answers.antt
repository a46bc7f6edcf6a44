use Rattle.source_laws.proofs.ScanLemmas.{scans_hop}
use Rattle.source_laws.proofs.laws.scans_pass.Goals as goal

pub returns : goal.returns
returns c = scans_hop
