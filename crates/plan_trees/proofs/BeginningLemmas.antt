-- The beginning of what may have been given may have been given.
use Rattle.std.proofs.Common.{◌≡◌, List, ◌++◌, Bool, true, false, subst, sym}
use Rattle.sql_values.specs.declared.value.Value.{Value}
use Rattle.relation_laws.specs.Joins.{join_of}
use Rattle.relation_laws.specs.Sorts.{IsBeginning}
use Rattle.plan_trees.specs.TreeForms.{TreeForm, scan, values, remote, step, join, union}
use Rattle.plan_trees.specs.TreeTypes.{types_of}
use Rattle.plan_trees.specs.Allowed.{Gives, scanned, skipping, width_of}
use Rattle.plan_trees.specs.Stopped.{Came, MayHaveGiven, is_late}
use Rattle.plan_trees.proofs.StepLemmas.{step_beginning}
use Rattle.plan_trees.proofs.SubBagLemmas.{sub_beginning}

-- a beginning of what came, where the step does not wait for all of it
front_came : (Whole Begun : List (List Value) → Type 0) (late : Bool) (front all : List (List Value)) → (IsBeginning front all → Begun all → Begun front)
    → Came late (front ≡ all) (IsBeginning front all) → Came late (Whole all) (Begun all) → Came late (Whole front) (Begun front)
front_came Whole Begun true front all begin same came = subst Whole (sym same) came
front_came Whole Begun false front all begin begins came = begin begins came

pub beginning_may : (tree : TreeForm) (tables : List (List (List Value))) (rows more : List (List Value)) → IsBeginning rows more → MayHaveGiven tree tables more → MayHaveGiven tree tables rows
beginning_may (scan id table columns types) tables rows more front h = sub_beginning rows more (scanned tables table columns) front h
beginning_may (values id types constants) tables rows more front h = sub_beginning rows more constants front h
beginning_may (remote id input) tables rows more front (a, h, sub) = (a, h, sub_beginning rows more a front sub)
beginning_may (step id s input) tables rows more front (a, b, came, gives, begins) =
    let f = step_beginning (types_of input) s a b rows more front gives begins in
    let came = front_came (Gives skipping input tables) (MayHaveGiven input tables) (is_late s) f.front a (beginning_may input tables f.front a) f.part came in
    (f.front, f.whole, came, f.gives, f.begins)
beginning_may (join id kind on left right) tables rows more front (a, b, h, k, sub) =
    (a, b, h, k, sub_beginning rows more (join_of kind on (width_of left) (width_of right) a b) front sub)
beginning_may (union id left right) tables rows more front (a, b, h, k, sub) = (a, b, h, k, sub_beginning rows more (a ++ b) front sub)
