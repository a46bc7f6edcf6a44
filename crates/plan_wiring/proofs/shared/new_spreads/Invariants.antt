use Rattle.std.proofs.Common.{◌≡◌, flat_map, map, replicate}
use Rattle.plan_wiring.specs.Bells.{AreNumbers, spread_bells}
use Rattle.plan_wiring.specs.Shares.{new_edge}
use Rattle.plan_wiring.specs.Wirings.{spread_view}
use Rattle.plan_wiring.proofs.shared.new_spreads.Given as goal

abbrev pub invariant-loop-task : goal.invariant-loop-task
invariant-loop-task l =
    (map spread_view l.spreads.items ≡ replicate l._task (new_edge l.takers))
    × AreNumbers l.fn.bells.next (flat_map spread_bells l.spreads.items) l.bells.next
