use Rattle.std.proofs.Common.{◌≡◌, ◌++◌, List, drop, false, map}
use Rattle.std.specs.Prelude.{All}
use Rattle.operator_core.specs.Rows.{Row}
use Rattle.driver_loop.specs.BuildFilters.{IsFilterOf, but_domain}
use Rattle.driver_loop.proofs.BuildFilterLemmas.{FedTo}
use Rattle.driver_loop.proofs.build_filter.add_to_each.Given as goal

-- the filters so far have the values of the page too, and the others are as they were
abbrev pub invariant-loop-place : goal.invariant-loop-place
invariant-loop-place l = record {
  same : map but_domain l.filters ≡ map but_domain l.initial.filters;
  rest : drop l.place l.filters ≡ drop l.place l.initial.filters;
  taken : (rows : List Row) → All (IsFilterOf rows false) l.initial.filters → FedTo l.place (rows ++ l.page.rows) l.filters;
}
