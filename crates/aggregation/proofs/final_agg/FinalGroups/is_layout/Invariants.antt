use Rattle.std.proofs.Common.{◌≡◌, drop}
use Rattle.std.specs.List.{list_all}
use Rattle.aggregation.specs.Finals.{layout_in}
use Rattle.aggregation.specs.Layouts.{is_layout_row}
use Rattle.aggregation.proofs.final_agg.FinalGroups.is_layout.Given as goal

abbrev pub invariant-loop-position : goal.invariant-loop-position
invariant-loop-position l =
    list_all (is_layout_row (layout_in l.self)) l.page.rows ≡ list_all (is_layout_row (layout_in l.self)) (drop l.position l.page.rows)
