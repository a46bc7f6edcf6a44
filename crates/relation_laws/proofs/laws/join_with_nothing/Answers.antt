use Rattle.relation_laws.proofs.NothingLemmas.{no_left}
use Rattle.relation_laws.proofs.laws.join_with_nothing.Goals as goal

pub returns-clause-right : goal.returns-clause-right
returns-clause-right c = no_left c.args.on.now c.args.left_width c.args.right_width c.args.rows.now
