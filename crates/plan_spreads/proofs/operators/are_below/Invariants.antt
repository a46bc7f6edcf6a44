use Rattle.std.proofs.Common.{◌≡◌, drop}
use Rattle.std.specs.Prelude.{nat_lt}
use Rattle.std.specs.List.{list_all}
use Rattle.plan_spreads.proofs.operators.are_below.Given as goal

abbrev pub invariant-loop-column : goal.invariant-loop-column
invariant-loop-column l =
    list_all (λ c. nat_lt c l.bound) l.columns ≡ list_all (λ c. nat_lt c l.bound) (drop l.column-index l.columns)
