-- What is allowed with failures left out may have been given.
use Rattle.std.proofs.Common.{List, ◌++◌, Bool, true, false}
use Rattle.sql_values.specs.declared.value.Value.{Value}
use Rattle.relation_laws.specs.Joins.{join_of}
use Rattle.plan_trees.specs.TreeForms.{TreeForm, scan, values, remote, step, join, union}
use Rattle.plan_trees.specs.Allowed.{Gives, skipping, scanned, width_of}
use Rattle.plan_trees.specs.Stopped.{Came, MayHaveGiven, is_late}
use Rattle.plan_trees.proofs.StepLemmas.{all-begins}
use Rattle.plan_trees.proofs.SubBagLemmas.{sub_from_same}

-- all of it came
pub all-came : {Whole Begun : Type 0} (late : Bool) → Whole → Begun → Came late Whole Begun
all-came true whole begun = whole
all-came false whole begun = begun

pub may_have_given : (tree : TreeForm) (tables : List (List (List Value))) (rows : List (List Value)) → Gives skipping tree tables rows → MayHaveGiven tree tables rows
may_have_given (scan id table columns types) tables rows h = sub_from_same rows (scanned tables table columns) h
may_have_given (values id types constants) tables rows h = sub_from_same rows constants h
may_have_given (remote id input) tables rows (a, h, same) = (a, may_have_given input tables a h, sub_from_same rows a same)
may_have_given (step id s input) tables rows (a, h, gives) =
    (a, rows, all-came (is_late s) h (may_have_given input tables a h), gives, all-begins s rows)
may_have_given (join id kind on left right) tables rows (a, b, h, k, same) =
    (a, b, may_have_given left tables a h, k, sub_from_same rows (join_of kind on (width_of left) (width_of right) a b) same)
may_have_given (union id left right) tables rows (a, b, h, k, same) =
    (a, b, may_have_given left tables a h, may_have_given right tables b k, sub_from_same rows (a ++ b) same)
