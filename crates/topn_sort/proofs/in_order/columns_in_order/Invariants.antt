use Rattle.std.proofs.Common.{◌≡◌, ◌++◌, map}
use Rattle.std.specs.Vec.Iter.{into_iter_items}
use Rattle.columns.specs.Present.{gather}
use Rattle.sql_values.specs.Blocks.{with_cells}
use Rattle.sql_values.specs.declared.value.Value.TheVariants.{Null}
use Rattle.topn_sort.proofs.in_order.columns_in_order.Given as goal

-- the columns so far, before those that are left
abbrev pub invariant-loop-column : goal.invariant-loop-column
invariant-loop-column l =
    l.ordered.items ++ map (λ c. with_cells c (gather c.cells Null l.order)) (into_iter_items l.column-iterator)
    ≡ map (λ c. with_cells c (gather c.cells Null l.order)) l.fn.columns.items
