-- Lemmas by names that attributes can cite.
use Rattle.accumulators.proofs.CellLemmas.{one_first}

pub ruleset adding = (one_first)
