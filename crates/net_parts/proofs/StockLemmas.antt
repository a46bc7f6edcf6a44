-- Stocks of which some seats were taken.
use Rattle.seat_stocks.specs.Stocks.{AreLeft, StockForm}
use Rattle.seat_stocks.proofs.LabelLemmas.{labelled_left}
use Rattle.pipe_stages.specs.Nets.{NetForm}
use Rattle.net_parts.specs.Makings.{InNets, IsStocked}
use Rattle.net_parts.specs.declared.making.Making.{Making}

pub left_self : (s : StockForm) → AreLeft s s
left_self s = record {
  claims = λ lane x on. on;
  puts = λ lane x on. on;
  takes = λ lane x on. on;
  deals = λ lane x on. on;
  shares = λ lane x on. on;
}

pub left_then : (a b c : StockForm) → AreLeft a b → AreLeft b c → AreLeft a c
left_then a b c first then = record {
  claims = λ lane x on. first.claims lane x (then.claims lane x on);
  puts = λ lane x on. first.puts lane x (then.puts lane x on);
  takes = λ lane x on. first.takes lane x (then.takes lane x on);
  deals = λ lane x on. first.deals lane x (then.deals lane x on);
  shares = λ lane x on. first.shares lane x (then.shares lane x on);
}

pub stocked_left : (m : Making) (old new : StockForm) → AreLeft old new → IsStocked m old → IsStocked m new
stocked_left m old new left stocked = record {
  labels = stocked.labels;
  labelled = labelled_left stocked.labels old new left stocked.labelled;
  splits = λ at place columns kinds has seat on. stocked.splits at place columns kinds has seat (left.claims at seat on);
}

pub nets_left : (m : Making) (old new : StockForm) (Holds : NetForm → Type 0) → AreLeft old new → InNets m new Holds → InNets m old Holds
nets_left m old new Holds left holds labels labelled net for = holds labels (labelled_left labels old new left labelled) net for
