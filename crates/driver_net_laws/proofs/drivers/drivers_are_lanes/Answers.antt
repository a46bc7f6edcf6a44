use Rattle.std.specs.Prelude.{Contains}
use Rattle.std.proofs.lemmas.List.Elements.{All-contains_itself}
use Rattle.driver_net_laws.proofs.MadeLemmas.{lane}
use Rattle.driver_net_laws.proofs.drivers.drivers_are_lanes.Goals as goal

pub returns : goal.returns
returns c = λ names run bells given stages took gave ended linked turns made know fit.
    lane names c.laws.ensures run bells given stages took gave ended linked turns (Contains stages) know (All-contains_itself stages) fit made
