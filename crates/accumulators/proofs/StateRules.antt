-- Lemmas by names that attributes can cite.
use Rattle.std.proofs.lemmas.List.{drop_all, take_rest, take_all}

pub ruleset behind = (drop_all, take_rest)

pub ruleset up_to = (take_all)
