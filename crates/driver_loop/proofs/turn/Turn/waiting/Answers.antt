use Rattle.std.proofs.Common.{refl}
use Rattle.driver_loop.proofs.turn.Turn.waiting.Goals as goal

pub returns : goal.returns
returns c = refl
