use Rattle.relation_laws.proofs.EqualityLemmas.{same_value_decides}
use Rattle.relation_laws.proofs.laws.same_values_are_equal.Goals as goal

pub returns : goal.returns
returns c = same_value_decides c.args.a.now c.args.b.now
