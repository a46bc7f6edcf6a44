use Rattle.std.proofs.Common.{rules, refl}
use Rattle.column_exprs.proofs.LaneLemmas.{chosen_all, chosen_held}
use Rattle.column_exprs.proofs.lanes.marks.Goals as goal

pub overflow_cast-result : goal.overflow_cast-result
overflow_cast-result c = chosen_all _ (search rules) (search rules) _ 8

pub returns : goal.returns
returns c = λ ts e. chosen_held _ ts c.args.held 8 refl refl e c.requires
