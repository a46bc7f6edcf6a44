use Rattle.std.proofs.Common.{arith}
use Rattle.std.proofs.lemmas.Grind.{common_steps}
use Rattle.plan_grammar.proofs.WalkLemmas.{spots_are}
use Rattle.plan_grammar.proofs.walk.+walk.Goals as goal

pub list_place-returns : goal.list_place-returns
list_place-returns t c = grind (arith, common_steps, spots_are)
