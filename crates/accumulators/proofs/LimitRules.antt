-- Lemmas by names that attributes can cite.
use Rattle.accumulators.proofs.LimitLemmas.{short_power}

pub ruleset short = (short_power)
