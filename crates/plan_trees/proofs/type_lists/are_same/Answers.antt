use Rattle.std.proofs.Common.{◌≡◌, rules}
use Rattle.std.specs.Bool.{Decides}
use Rattle.std.proofs.lemmas.Slice.Eq.{slice_eq-Decides}
use Rattle.sql_values.specs.declared.types.SqlType.{SqlType}
use Rattle.sql_values.specs.contracts.types.SqlTypePartialEq.TheImpl.{ghosts}
use Rattle.plan_trees.proofs.type_lists.are_same.Goals as goal

same : (a b : SqlType) → Decides (ghosts.eq a b) (a ≡ b)
same a b = search rules

pub returns : goal.returns
returns c = slice_eq-Decides same _ _ _ c.eq.ensures
