use Rattle.net_laws.proofs.DriverLemmas.{rows_flowed}
use Rattle.net_laws.proofs.sources.rows_flowed.Goals as goal

pub returns : goal.returns
returns c = λ net drivers settled. rows_flowed net.layout drivers settled.each
