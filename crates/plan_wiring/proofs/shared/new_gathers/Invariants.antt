use Rattle.std.proofs.Common.{◌≡◌, flat_map, map, replicate}
use Rattle.plan_wiring.specs.Bells.{AreNumbers, gather_bells}
use Rattle.plan_wiring.specs.Shares.{new_edge}
use Rattle.plan_wiring.specs.Wirings.{gather_view}
use Rattle.plan_wiring.proofs.shared.new_gathers.Given as goal

abbrev pub invariant-loop-task : goal.invariant-loop-task
invariant-loop-task l =
    (map gather_view l.gathers.items ≡ replicate l._task (new_edge l.putters))
    × AreNumbers l.fn.bells.next (flat_map gather_bells l.gathers.items) l.bells.next
