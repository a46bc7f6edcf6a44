use Rattle.std.proofs.Common.{rules}
use Rattle.seat_stocks.proofs.stock.Stock.add.Goals as goal

pub returns : goal.returns
returns c = search rules
