use Rattle.std.specs.Prelude.{Contains}
use Rattle.std.proofs.lemmas.List.Elements.{All-contains_itself}
use Rattle.driver_net_laws.proofs.MadeLemmas.{half_gives, lane_gives}
use Rattle.driver_net_laws.proofs.drivers.drivers_give_typed_rows.Goals as goal

pub returns-clause-lanes : goal.returns-clause-lanes
returns-clause-lanes c = λ names run bells given stages took gave ended linked turns made know fit.
    lane_gives names c.laws.ensures run bells given stages took gave ended linked turns (Contains stages) know (All-contains_itself stages) fit made

pub returns-clause-halves : goal.returns-clause-halves
returns-clause-halves c = λ names run half bells given stages took gave ended linked turns made know fit.
    half_gives names c.laws.ensures run bells given stages took gave ended linked turns (Contains stages) know (All-contains_itself stages) fit half made
