-- Lemmas by names that attributes can cite.
use Rattle.accumulators.proofs.CellLemmas.{count-cell, count-stored, first_cell, second_cell, sum-cell, sum-stored}

pub ruleset summing = (sum-cell, sum-stored)

pub ruleset counting = (count-cell, count-stored)

pub ruleset from_place = (first_cell, second_cell)
