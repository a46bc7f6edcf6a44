-- The columns by which rows sit are columns of the node.
use Rattle.std.proofs.Common.{ℕ, ◌≤◌, List, ◌++◌, arith, length, map}
use Rattle.std.proofs.lemmas.List.{length-append, length-map}
use Rattle.bag_laws.specs.Buckets.{AllBelow, lefts}
use Rattle.sql_functions.specs.CallTypes.{type_at}
use Rattle.sql_exprs.specs.Meaning.{kind_of}
use Rattle.plan_trees.specs.Allowed.{width_of}
use Rattle.plan_trees.specs.TreeTypes.{call_kind, types_of}
use Rattle.plan_run_laws.specs.Placements.{Placed, scan_whole, scan_any, values_whole, values_every, remote_whole, remote_by, remote_every, step_whole, halves_whole, filter_stays, project_any, project_by, project_every, join_whole, join_right_every, join_by, aggregate_by, final_by, union_whole, union_any, union_every, any_from_by}
use Rattle.plan_run_laws.specs.RunPlans.{RunPlan, tree_of_run}
use Rattle.plan_run_laws.specs.Spreads.{Spread, any, by, every, whole}

below-more : (small great : ℕ) (columns : List ℕ) → small ≤ great → AllBelow small columns → AllBelow great columns
below-more small great columns le h k d lt = omega (arith, h k d lt, le)

-- nothing is said of other spreads
abbrev pub SpreadBelow : ℕ → Spread → Type 0
SpreadBelow width whole = Unit {0}
SpreadBelow width any = Unit {0}
SpreadBelow width (by columns) = AllBelow width columns
SpreadBelow width every = Unit {0}

spread_below-more : (small great : ℕ) (s : Spread) → small ≤ great → SpreadBelow small s → SpreadBelow great s
spread_below-more small great whole le h = tt
spread_below-more small great any le h = tt
spread_below-more small great (by columns) le h = below-more small great columns le h
spread_below-more small great every le h = tt

pub columns_below : {n : ℕ} {plan : RunPlan} {s : Spread} → Placed n plan s → SpreadBelow (width_of (tree_of_run plan)) s
columns_below scan_whole = tt
columns_below scan_any = tt
columns_below values_whole = tt
columns_below values_every = tt
columns_below (remote_whole r d) = tt
columns_below (remote_by below r d) = below
columns_below (remote_every r d) = tt
columns_below (step_whole d) = tt
columns_below (halves_whole r d) = tt
columns_below (filter_stays d) = columns_below d
columns_below (project_any d) = tt
columns_below (project_by {columns = columns} {input = input} {places = places} plain d) =
    below-more (length columns) (length (map (kind_of (types_of (tree_of_run input))) columns)) places
    (omega (arith, length-map columns (kind_of (types_of (tree_of_run input))))) plain.0
columns_below (project_every d) = tt
columns_below (join_whole d e) = tt
columns_below (join_right_every {left = left} {right = right} {s = s} d e) =
    spread_below-more (width_of (tree_of_run left)) (length (types_of (tree_of_run left) ++ types_of (tree_of_run right))) s
    (omega (arith, length-append (types_of (tree_of_run left)) (types_of (tree_of_run right)))) (columns_below d)
columns_below (join_by {left = left} {right = right} pairs among d e) =
    below-more (width_of (tree_of_run left)) (length (types_of (tree_of_run left) ++ types_of (tree_of_run right))) (lefts pairs)
    (omega (arith, length-append (types_of (tree_of_run left)) (types_of (tree_of_run right)))) (columns_below d)
columns_below (aggregate_by {keys = keys} {places = places} {calls = calls} {input = input} some below d) =
    let types = types_of (tree_of_run input) in
    below-more (length keys) (length (map (type_at types) keys ++ map (call_kind types) calls)) places
    (omega (arith, length-append (map (type_at types) keys) (map (call_kind types) calls), length-map keys (type_at types))) below
columns_below (final_by {keys = keys} {columns = columns} {calls = calls} {input = input} some below r d) =
    let types = types_of (tree_of_run input) in
    below-more (length keys) (length (map (type_at types) keys ++ map (call_kind types) calls)) columns
    (omega (arith, length-append (map (type_at types) keys) (map (call_kind types) calls), length-map keys (type_at types))) below
columns_below (union_whole d e) = tt
columns_below (union_any d e) = tt
columns_below (union_every d e) = tt
columns_below (any_from_by d) = tt
