-- Strict and skipping: they agree where nothing fails, and skipping allows some list.
use Rattle.std.proofs.Common.{inl, inr, List, ◌++◌, refl}
use Rattle.std.proofs.lemmas.List.Sorted.{IsPermutation-refl}
use Rattle.sql_values.specs.declared.value.Value.{Value}
use Rattle.relation_laws.specs.Joins.{join_of}
use Rattle.plan_trees.specs.TreeForms.{TreeForm, scan, values, remote, step, join, union}
use Rattle.plan_trees.specs.TreeTypes.{types_of}
use Rattle.plan_trees.specs.Allowed.{Gives, scanned, skipping, strict, width_of}
use Rattle.plan_trees.specs.Stopped.{is_late}
use Rattle.plan_trees.specs.Laws.{AllowsSome, CannotFail}
use Rattle.plan_trees.proofs.GivenLemmas.{all-came, may_have_given}
use Rattle.plan_trees.proofs.StepLemmas.{some_step, step_skipping, step_strict}

pub skipping_from_strict : (tree : TreeForm) (tables : List (List (List Value))) (rows : List (List Value)) → Gives strict tree tables rows → Gives skipping tree tables rows
skipping_from_strict (scan id table columns types) tables rows h = h
skipping_from_strict (values id types constants) tables rows h = h
skipping_from_strict (remote id input) tables rows (a, h, same) = (a, skipping_from_strict input tables a h, same)
skipping_from_strict (step id s input) tables rows (a, h, gives) =
    (a, skipping_from_strict input tables a h, step_skipping (types_of input) s a rows gives)
skipping_from_strict (join id kind on left right) tables rows (a, b, h, k, same) =
    (a, b, skipping_from_strict left tables a h, skipping_from_strict right tables b k, same)
skipping_from_strict (union id left right) tables rows (a, b, h, k, same) =
    (a, b, skipping_from_strict left tables a h, skipping_from_strict right tables b k, same)

pub strict_from_skipping : (tree : TreeForm) (tables : List (List (List Value))) (rows : List (List Value)) → CannotFail tree tables → Gives skipping tree tables rows → Gives strict tree tables rows
strict_from_skipping (scan id table columns types) tables rows calm h = h
strict_from_skipping (values id types constants) tables rows calm h = h
strict_from_skipping (remote id input) tables rows calm (a, h, same) = (a, strict_from_skipping input tables a calm h, same)
strict_from_skipping (step id s input) tables rows calm (a, h, gives) = (
  a,
  strict_from_skipping input tables a (λ node kind may. calm node kind (inr may)) h,
  step_strict (types_of input) s a rows
      (λ kind so. calm id kind (inl (refl, record { given = a; may = all-came (is_late s) h (may_have_given input tables a h); so = so }))) gives,
)
strict_from_skipping (join id how on left right) tables rows calm (a, b, h, k, same) = (
  a,
  b,
  strict_from_skipping left tables a (λ node kind may. calm node kind (inl may)) h,
  strict_from_skipping right tables b (λ node kind may. calm node kind (inr may)) k,
  same,
)
strict_from_skipping (union id left right) tables rows calm (a, b, h, k, same) = (
  a,
  b,
  strict_from_skipping left tables a (λ node kind may. calm node kind (inl may)) h,
  strict_from_skipping right tables b (λ node kind may. calm node kind (inr may)) k,
  same,
)

pub some_list : (tree : TreeForm) (tables : List (List (List Value))) → AllowsSome tree tables
some_list (scan id table columns types) tables = (scanned tables table columns, IsPermutation-refl (scanned tables table columns))
some_list (values id types constants) tables = (constants, IsPermutation-refl constants)
some_list (remote id input) tables = let a = some_list input tables in (a.0, (a.0, a.1, IsPermutation-refl a.0))
some_list (step id s input) tables =
    let a = some_list input tables in
    let rows = some_step (types_of input) s a.0 in
    (rows.0, (a.0, a.1, rows.1))
some_list (join id kind on left right) tables =
    let a = some_list left tables in
    let b = some_list right tables in
    let rows = join_of kind on (width_of left) (width_of right) a.0 b.0 in
    (rows, (a.0, b.0, a.1, b.1, IsPermutation-refl rows))
some_list (union id left right) tables =
    let a = some_list left tables in
    let b = some_list right tables in
    (a.0 ++ b.0, (a.0, b.0, a.1, b.1, IsPermutation-refl (a.0 ++ b.0)))
