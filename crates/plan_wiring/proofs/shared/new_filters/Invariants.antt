use Rattle.std.proofs.Common.{◌≡◌, map, max, replicate}
use Rattle.plan_wiring.specs.Bells.{AreNumbers}
use Rattle.plan_wiring.specs.Wirings.{filter_bells, parts_of}
use Rattle.plan_wiring.proofs.shared.new_filters.Given as goal

abbrev pub invariant-loop-filter : goal.invariant-loop-filter
invariant-loop-filter l =
    (map parts_of l.cells.items ≡ replicate l._filter (max l.tasks 1)) × AreNumbers l.fn.bells.next (filter_bells l.cells.items) l.bells.next
