use Rattle.std.proofs.Common.{◌≡◌, drop}
use Rattle.std.specs.List.{list_any}
use Rattle.plan_spreads.specs.Columns.{is_pair}
use Rattle.plan_spreads.proofs.given_columns.has_pair.Given as goal

abbrev pub invariant-loop-pair : goal.invariant-loop-pair
invariant-loop-pair l =
    list_any (is_pair l.left l.right) l.on ≡ list_any (is_pair l.left l.right) (drop l.pair-index l.on)
