use Rattle.std.proofs.Common.{◌≡◌, ◌++◌, drop}
use Rattle.std.specs.List.{flat_map}
use Rattle.plan_trees.specs.Layouts.{call_layout}
use Rattle.plan_trees.proofs.layouts.append_part_types.Given as goal

abbrev pub invariant-loop-call : goal.invariant-loop-call
invariant-loop-call l =
    l.kinds ++ flat_map (call_layout l.types) (drop l.call-index l.calls) ≡ l.initial.kinds ++ flat_map (call_layout l.types) l.calls
