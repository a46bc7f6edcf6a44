use Rattle.std.proofs.Common.{rules}
use Rattle.seat_stocks.proofs.lanes.Lanes.spread.Goals as goal

pub returns : goal.returns
returns c = search rules
