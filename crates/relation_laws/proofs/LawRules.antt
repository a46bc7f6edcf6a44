-- Lemmas by names that attributes can cite.
use Rattle.relation_laws.proofs.PartialLemmas.{partial_of-append, results_from-partial_of}

pub ruleset merging = (partial_of-append)

pub ruleset telling = (results_from-partial_of)
