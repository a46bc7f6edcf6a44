use Rattle.lost_row_laws.proofs.ArrivalLemmas.{comes_down}
use Rattle.lost_row_laws.proofs.laws.sieves_come_down_to_their_scans.Goals as goal

pub returns : goal.returns
returns c = λ own plan sieves s held o is. comes_down own o plan sieves s held is
