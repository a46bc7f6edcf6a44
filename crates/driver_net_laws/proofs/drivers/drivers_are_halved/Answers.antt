use Rattle.std.specs.Prelude.{Contains}
use Rattle.std.proofs.lemmas.List.Elements.{All-contains_itself}
use Rattle.driver_net_laws.proofs.MadeLemmas.{halved}
use Rattle.driver_net_laws.proofs.drivers.drivers_are_halved.Goals as goal

pub returns : goal.returns
returns c = λ names run half bells given stages took gave ended linked turns made know fit.
    halved names c.laws.ensures run bells given stages took gave ended linked turns (Contains stages) know (All-contains_itself stages) fit half made
