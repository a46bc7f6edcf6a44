use Rattle.net_laws.proofs.LaterLemmas.{later_same, later_then}
use Rattle.net_laws.proofs.lanes.turns_follow_turns.Goals as goal

pub returns-clause-none : goal.returns-clause-none
returns-clause-none c = later_same

pub returns-clause-more : goal.returns-clause-more
returns-clause-more c = later_then
