-- The rows that a tree gives have its types, and so have the rows that a run which was stopped gave.
use Rattle.std.proofs.Common.{◌≡◌, ℕ, Bool, true, false, List, ◌++◌, map, sym, subst}
use Rattle.std.specs.Prelude.{All, IsTrue, flat_map}
use Rattle.std.proofs.lemmas.List.Elements.{All-append, All-take}
use Rattle.std.proofs.lemmas.List.Sorted.{All-permutation}
use Rattle.sql_values.specs.declared.types.SqlType.{SqlType}
use Rattle.sql_values.specs.declared.value.Value.{Value}
use Rattle.sql_values.specs.declared.relational.Call.{Call}
use Rattle.sql_functions.specs.CallTypes.{type_at}
use Rattle.sql_exprs.specs.Meaning.{kind_of}
use Rattle.accumulators.specs.Limits.{are_allowed}
use Rattle.relation_laws.specs.Groups.{groups_of}
use Rattle.relation_laws.specs.Joins.{join_of}
use Rattle.relation_laws.specs.Verdicts.{kept}
use Rattle.plan_trees.specs.Allowed.{Gives, Mode, scanned, skipping, width_of}
use Rattle.plan_trees.specs.Steps.{StepBegins, StepForm, StepGives, aggregate, filter, is_late, limit, project, sort, topn, types_after}
use Rattle.plan_trees.specs.Stopped.{Came, MayHaveGiven}
use Rattle.plan_trees.specs.TreeForms.{TreeForm, scan, values, remote, step, join, union}
use Rattle.plan_trees.specs.TreeTypes.{call_kind, types_of}
use Rattle.tree_evaluator.specs.Fits.{FitsTables, StepFits}
use Rattle.group_type_laws.proofs.GroupLemmas.{groups_keep, rows_from_test, test_from_rows}
use Rattle.tree_type_laws.specs.TypedTrees.{HaveTypes, StepCasts, TypedTables}
use Rattle.tree_type_laws.proofs.RowLemmas.{All-beginning, All-sub, Has}
use Rattle.tree_type_laws.proofs.JudgeLemmas.{filter_keeps, project_keeps}
use Rattle.tree_type_laws.proofs.JoinLemmas.{join_keeps}

groups_have : (types : List SqlType) (keys : List ℕ) (calls : List Call) (rows : List (List Value)) → IsTrue (are_allowed types calls) → All (Has types) rows
    → All (Has (map (type_at types) keys ++ map (call_kind types) calls)) (flat_map kept (groups_of types keys calls rows))
groups_have types keys calls rows allowed all =
    rows_from_test (map (type_at types) keys ++ map (call_kind types) calls) (flat_map kept (groups_of types keys calls rows))
    (groups_keep types keys calls rows allowed (test_from_rows types rows all))

-- what a step gives of rows that have types
step_has : (mode : Mode) (types : List SqlType) (s : StepForm) (input rows : List (List Value)) → StepFits types s → StepCasts s → All (Has types) input
    → StepGives mode types s input rows → All (Has (types_after s types)) rows
step_has mode types (filter predicate) input rows fit casts all gives = subst (All (Has types)) (sym gives.are_kept) (filter_keeps types predicate input all)
step_has mode types (project columns) input rows fit casts all gives =
    subst (All (Has (map (kind_of types) columns))) (sym gives.are_kept) (project_keeps types columns input fit.1 casts all)
step_has mode types (aggregate keys calls) input rows fit casts all gives =
    All-permutation (Has (map (type_at types) keys ++ map (call_kind types) calls)) (flat_map kept (groups_of types keys calls input)) rows gives.are_kept
    (groups_have types keys calls input fit.1 all)
step_has mode types (sort keys) input rows fit casts all gives = All-permutation (Has types) input rows gives.same all
step_has mode types (topn count keys) input rows fit casts all gives =
    subst (All (Has types)) (sym gives.is) (All-take (Has types) count gives.order (All-permutation (Has types) input gives.order gives.sorted.same all))
step_has mode types (limit count) input rows fit casts all gives = subst (All (Has types)) (sym gives) (All-take (Has types) count input all)

-- what it may have given of them
begun_has : (types : List SqlType) (s : StepForm) (rows all : List (List Value)) → StepBegins s rows all → All (Has types) all → All (Has types) rows
begun_has types (filter predicate) rows all begins has = subst (All (Has types)) (sym begins) has
begun_has types (project columns) rows all begins has = subst (All (Has types)) (sym begins) has
begun_has types (limit count) rows all begins has = subst (All (Has types)) (sym begins) has
begun_has types (aggregate keys calls) rows all begins has = All-sub (Has types) rows all begins has
begun_has types s rows all begins has = All-beginning (Has types) rows all begins has

of_came : {Whole Begun Holds : Type 0} (late : Bool) → (Whole → Holds) → (Begun → Holds) → Came late Whole Begun → Holds
of_came true of_whole of_begun came = of_whole came
of_came false of_whole of_begun came = of_begun came

-- both sides of a union
union_has : (ks ls : List SqlType) (A B : List (List Value)) → ks ≡ ls → All (Has ks) A → All (Has ls) B → All (Has ks) (A ++ B)
union_has ks ls A B same a b = All-append (Has ks) A B a (subst (λ (ts : List SqlType). All (Has ts) B) (sym same) b)

given_have : (mode : Mode) (tree : TreeForm) (tables : List (List (List Value))) → FitsTables tree tables → TypedTables tree tables → (rows : List (List Value)) → Gives mode tree tables rows
    → All (Has (types_of tree)) rows
given_have mode (scan id table columns types) tables fit typed rows gives =
    All-permutation (Has types) (scanned tables table columns) rows gives (rows_from_test types (scanned tables table columns) typed)
given_have mode (values id types constants) tables fit typed rows gives = All-permutation (Has types) constants rows gives (rows_from_test types constants typed)
given_have mode (remote id input) tables fit typed rows gives =
    All-permutation (Has (types_of input)) gives.0 rows gives.2 (given_have mode input tables fit typed gives.0 gives.1)
given_have mode (step id s input) tables fit typed rows gives =
    step_has mode (types_of input) s gives.0 rows fit.0 typed.0 (given_have mode input tables fit.1 typed.1 gives.0 gives.1) gives.2
given_have mode (join id kind on left right) tables fit typed rows gives =
    All-permutation (Has (types_of left ++ types_of right)) (join_of kind on (width_of left) (width_of right) gives.0 gives.1) rows gives.4
    (join_keeps (types_of left) (types_of right) kind on (width_of left) gives.0 gives.1
    (given_have mode left tables fit.0 typed.0 gives.0 gives.2) (given_have mode right tables fit.1 typed.1 gives.1 gives.3))
given_have mode (union id left right) tables fit typed rows gives =
    All-permutation (Has (types_of left)) (gives.0 ++ gives.1) rows gives.4
    (union_has (types_of left) (types_of right) gives.0 gives.1 fit.0
    (given_have mode left tables fit.1 typed.0 gives.0 gives.2) (given_have mode right tables fit.2 typed.1 gives.1 gives.3))

stopped_have : (tree : TreeForm) (tables : List (List (List Value))) → FitsTables tree tables → TypedTables tree tables → (rows : List (List Value)) → MayHaveGiven tree tables rows
    → All (Has (types_of tree)) rows
stopped_have (scan id table columns types) tables fit typed rows given =
    All-sub (Has types) rows (scanned tables table columns) given (rows_from_test types (scanned tables table columns) typed)
stopped_have (values id types constants) tables fit typed rows given = All-sub (Has types) rows constants given (rows_from_test types constants typed)
stopped_have (remote id input) tables fit typed rows given = All-sub (Has (types_of input)) rows given.0 given.2 (stopped_have input tables fit typed given.0 given.1)
stopped_have (step id s input) tables fit typed rows (a, b, came, gives, begins) =
    let has = of_came (is_late s) (given_have skipping input tables fit.1 typed.1 a) (stopped_have input tables fit.1 typed.1 a) came in
    begun_has (types_after s (types_of input)) s rows b begins (step_has skipping (types_of input) s a b fit.0 typed.0 has gives)
stopped_have (join id kind on left right) tables fit typed rows given =
    All-sub (Has (types_of left ++ types_of right)) rows (join_of kind on (width_of left) (width_of right) given.0 given.1) given.4
    (join_keeps (types_of left) (types_of right) kind on (width_of left) given.0 given.1
    (stopped_have left tables fit.0 typed.0 given.0 given.2) (given_have skipping right tables fit.1 typed.1 given.1 given.3))
stopped_have (union id left right) tables fit typed rows given =
    All-sub (Has (types_of left)) rows (given.0 ++ given.1) given.4
    (union_has (types_of left) (types_of right) given.0 given.1 fit.0
    (stopped_have left tables fit.1 typed.0 given.0 given.2) (stopped_have right tables fit.2 typed.1 given.1 given.3))

pub rows_keep : (mode : Mode) (tree : TreeForm) (tables : List (List (List Value))) → FitsTables tree tables → TypedTables tree tables → (rows : List (List Value)) → Gives mode tree tables rows
    → HaveTypes (types_of tree) rows
rows_keep mode tree tables fit typed rows gives = test_from_rows (types_of tree) rows (given_have mode tree tables fit typed rows gives)

pub stopped_rows_keep : (tree : TreeForm) (tables : List (List (List Value))) → FitsTables tree tables → TypedTables tree tables → (rows : List (List Value)) → MayHaveGiven tree tables rows
    → HaveTypes (types_of tree) rows
stopped_rows_keep tree tables fit typed rows given = test_from_rows (types_of tree) rows (stopped_have tree tables fit typed rows given)
