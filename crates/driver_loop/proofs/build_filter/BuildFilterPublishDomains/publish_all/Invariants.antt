use Rattle.std.proofs.Common.{◌≡◌, ℕ, ◌+◌, ◌≤◌, List, map, true}
use Rattle.std.specs.Prelude.{All}
use Rattle.operator_core.specs.Rows.{Row}
use Rattle.driver_loop.specs.BuildFilters.{IsFilterOf, build_filter_made, parts_dues, parts_refused}
use Rattle.driver_loop.proofs.BuildFilterLemmas.{PublishedTo}
use Rattle.driver_loop.proofs.build_filter.BuildFilterPublishDomains.publish_all.Given as goal

-- the filters so far are published
abbrev pub invariant-loop-place : goal.invariant-loop-place
invariant-loop-place g l = record {
  made : map build_filter_made l.filters ≡ map build_filter_made l.initial.filters;
  of : (rows : List Row) → All (IsFilterOf rows true) l.initial.filters → All (IsFilterOf rows true) l.filters;
  before : PublishedTo l.place l.filters;
  refused : parts_refused l.initial.filters ≤ parts_refused l.filters;
  shown : (bell count : ℕ) → g.B.Bells.shown l.initial.bells bell count → g.B.Bells.shown l.bells bell count;
  rang : (bell times : ℕ) → g.B.Bells.rang l.initial.bells bell (times + parts_dues l.initial.filters bell) → g.B.Bells.rang l.bells bell (times + parts_dues l.filters bell);
}
