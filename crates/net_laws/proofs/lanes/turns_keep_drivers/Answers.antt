use Rattle.net_laws.proofs.LaterLemmas.{driver_on, drivers_on}
use Rattle.net_laws.proofs.lanes.turns_keep_drivers.Goals as goal

pub returns-clause-one : goal.returns-clause-one
returns-clause-one c = driver_on

pub returns-clause-all : goal.returns-clause-all
returns-clause-all c = drivers_on
