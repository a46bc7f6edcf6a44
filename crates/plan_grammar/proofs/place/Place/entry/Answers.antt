use Rattle.std.proofs.Common.{rules}
use Rattle.plan_grammar.proofs.place.Place.entry.Goals as goal

pub returns : goal.returns
returns c = search rules
