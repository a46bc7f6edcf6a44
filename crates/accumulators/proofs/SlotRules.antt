-- Lemmas by names that attributes can cite.
use Rattle.accumulators.proofs.CellLemmas.{one_first, first_cell, second_cell}
use Rattle.accumulators.proofs.SlotLemmas.{none-put, set-again}

pub ruleset taking = (one_first, none-put, set-again)

pub ruleset merging = (first_cell, second_cell, none-put, set-again)
