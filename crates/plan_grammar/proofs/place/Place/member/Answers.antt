use Rattle.std.proofs.Common.{rules}
use Rattle.plan_grammar.proofs.place.Place.member.Goals as goal

pub returns : goal.returns
returns c = search rules
