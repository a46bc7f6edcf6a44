use Rattle.std.proofs.Common.{◌≡◌, ◌++◌, drop, flat_map, map}
use Rattle.plan_layout.specs.Pipes.{pipe_view}
use Rattle.plan_wiring.specs.Bells.{AreNumbers}
use Rattle.plan_wiring.specs.Shares.{shares_of}
use Rattle.plan_wiring.specs.Wirings.{bells_of, share_view}
use Rattle.plan_wiring.proofs.wiring.shares_of.Given as goal

abbrev pub invariant-loop-own : goal.invariant-loop-own
invariant-loop-own l =
    (shares_of (map pipe_view l.layout) l.tables l.split 0 (map pipe_view l.layout)
    ≡ map share_view l.pipes.items
    ++ shares_of (map pipe_view l.layout) l.tables l.split l.own (map pipe_view (drop l.own l.layout)))
    × AreNumbers l.fn.bells.next (flat_map bells_of l.pipes.items) l.bells.next
