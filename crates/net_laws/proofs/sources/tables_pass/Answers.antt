use Rattle.net_laws.proofs.DriverLemmas.{all_known}
use Rattle.net_laws.proofs.TableLemmas.{table_hop}
use Rattle.net_laws.proofs.sources.tables_pass.Goals as goal

pub returns : goal.returns
returns c = λ net drivers flow are settled flowed at pipe is place columns kinds reads.
    table_hop net drivers flow at pipe (all_known net drivers flow are settled flowed at pipe is) place columns kinds reads (settled.back at pipe is)
