-- A sorted list of rows, and the types of what is sorted.
use Rattle.std.proofs.Common.{◌≡◌, ◌<◌, Bool, false, List, length, map, get_or, sym, ◌∙◌, ap, arith, subst}
use Rattle.std.specs.Prelude.{IfOk, IsPermutation, IsTrue, Result, Ok, Err}
use Rattle.std.specs.Fn.{Called}
use Rattle.std.specs.List.Sorted.{IsSortedBy, IsSortedByClosure}
use Rattle.std.specs.Ordering.{is_lt}
use Rattle.std.specs.declared.cmp.Ordering.{Ordering}
use Rattle.std.proofs.lemmas.Bool.{true≢false}
use Rattle.std.proofs.lemmas.Fn.{always_returns_same}
use Rattle.std.proofs.lemmas.List.{length-append, length-map}
use Rattle.std.proofs.lemmas.List.Sorted.{All-permutation, ranks_by, sorted_far}
use denote.Ref.{Bor}
use denote.Param.Members.{Mut}
use Rattle.sql_values.specs.declared.types.SqlType.{SqlType}
use Rattle.sql_values.specs.declared.value.Value.{Value}
use Rattle.sql_values.specs.declared.order.KeySpec.{KeySpec}
use Rattle.sql_values.specs.ColumnRows.{fits_row}
use Rattle.sql_values.specs.Order.{IsOrdered, row_cmp}
use Rattle.sql_values.proofs.OrderLemmas.{row_cmp_total}
use Rattle.sql_functions.specs.CallTypes.{type_at}
use Rattle.sql_exprs.specs.Meaning.{kind_of}
use Rattle.relation_laws.specs.Sorts.{IsSortOf}
use Rattle.col_pages.specs.Fits.{AllFit}
use Rattle.plan_trees.specs.Steps.{StepForm, aggregate, project, types_after}
use Rattle.plan_trees.specs.TreeForms.{TreeForm, scan, values, remote, step, join, union}
use Rattle.plan_trees.specs.TreeTypes.{call_kind, types_of}
use Rattle.tree_evaluator.specs.Fits.{FitsTables, StepFits}

-- a step over a column has one
step_column : (types : List SqlType) (s : StepForm) → StepFits types s → 0 < length types → 0 < length (types_after s types)
step_column types (project columns) fit some = omega (arith, length-map columns (kind_of types), fit.0)
step_column types (aggregate keys calls) fit some =
    omega (arith, length-append (map (type_at types) keys) (map (call_kind types) calls), length-map keys (type_at types), length-map calls (call_kind types), fit.0)
step_column types s fit some = some

-- a tree that fits has a column
pub has_column : (tree : TreeForm) (tables : List (List (List Value))) → FitsTables tree tables → 0 < length (types_of tree)
has_column (scan id table columns types) tables fit = fit.0
has_column (values id types constants) tables fit = fit.0
has_column (remote id input) tables fit = has_column input tables fit
has_column (step id s input) tables fit = step_column (types_of input) s fit.0 (has_column input tables fit.1)
has_column (join id kind on left right) tables fit = omega (arith, length-append (types_of left) (types_of right), has_column left tables fit.0)
has_column (union id left right) tables fit = has_column left tables fit.1

-- so rows that it gave have one
pub gave_column : (tree : TreeForm) (tables : List (List (List Value))) (types : List SqlType) → FitsTables tree tables → types ≡ types_of tree → 0 < length types
gave_column tree tables types fit same = subst (λ (ts : List SqlType). 0 < length ts) (sym same) (has_column tree tables fit)

-- a list that is a sort of the rows
pub sort_answer : {E : Type 0} (r : Result (List (List Value)) E) (keys : List KeySpec) (rows order : List (List Value)) → IfOk r (λ list. list ≡ order) → IsSortOf keys rows order
    → IfOk r (IsSortOf keys rows)
sort_answer (Ok list) keys rows order same s = subst (IsSortOf keys rows) (sym same) s
sort_answer (Err reason) keys rows order same s = tt

-- a sort of rows that fit fits
pub sort_fits : (types : List SqlType) (keys : List KeySpec) (rows sorted : List (List Value)) → IsSortOf keys rows sorted → AllFit types rows → AllFit types sorted
sort_fits types keys rows sorted s fit = All-permutation (λ row. IsTrue (fits_row types row)) rows sorted s.same fit

module _ (keys : List KeySpec) where
  abbrev is_before : List Value → List Value → Bool
  is_before a b = is_lt (row_cmp keys a b)

  ordered_rows : (order : List (List Value)) → IsSortedBy is_before order → IsOrdered keys order
  ordered_rows order up i j d lt within e =
      let far : is_before (get_or order j d) (get_or order i d) ≡ false
      = sorted_far is_before (ranks_by (row_cmp_total keys) (λ (r : List Value). r)) order up i j d (omega arith) within in
      true≢false (sym (ap is_lt e) ∙ far)

  -- what std's sort gives by comparing rows
  pub sorted_rows : {F : Type 0} {g : Mut F (Bor (List Value) × (Bor (List Value) × Unit {0})) Ordering} {f : F} (rows order : List (List Value))
      → IsPermutation rows order → IsSortedByClosure g f order
      → ((a : Bor (List Value) × (Bor (List Value) × Unit {0})) (r : Ordering) (f' : F) → Called g f a r f' → (r ≡ row_cmp keys a.0.now a.1.0.now) × (f' ≡ f))
      → IsSortOf keys rows order
  sorted_rows {g = g} {f = f} rows order same up h = record {
    same = same;
    ordered = ordered_rows order (up is_before (ranks_by (row_cmp_total keys) (λ (r : List Value). r))
        (always_returns_same g (λ a r. is_lt r ≡ is_before a.0.now a.1.0.now) f (λ a r f' k. (ap is_lt (h a r f' k).0, (h a r f' k).1))));
  }
