use Rattle.relation_laws.proofs.EqualityLemmas.{same_row_decides}
use Rattle.relation_laws.proofs.laws.same_rows_are_equal.Goals as goal

pub returns : goal.returns
returns c = same_row_decides c.args.a.now c.args.b.now
