use Rattle.std.proofs.Common.{rules}
use Rattle.seat_stocks.proofs.lanes.lane_at.Goals as goal

pub returns : goal.returns
returns c = search rules
