-- How many rows passed the dynamic filters of scans, in all drivers of a layout.
use Rattle.std.specs.Prelude.{ℕ, ◌+◌, List, [], ◌∷◌, flat_map, if◌then◌else◌, map, min, sum}
use Rattle.std.specs.List.Sorted.{IsPermutation, IsStrictlyIncreasing}
use Rattle.count_laws.specs.Counts.{most_count}
use Rattle.driver_loop.specs.Drivers.{DriverState}
use Rattle.driver_loop.specs.Turns.{passed_of}
use Rattle.driver_net_laws.specs.Settled.{in_pipe, in_task}
use Rattle.plan_layout.specs.declared.filters.PlacedFilter.{PlacedFilter}
use Rattle.plan_layout.specs.Filters.{scan_filters}
use Rattle.plan_layout.specs.Pipes.{PipeForm}
use Rattle.net_closing.specs.Left.{at_place}
use Rattle.net_closing.specs.declared.counts.FilterPassed.{FilterPassed}

-- how many rows passed the filter at a place in all drivers of a pipe, up to the most that 64 bits count
abbrev pub rows_passed : List DriverState → PipeForm → ℕ → ℕ
rows_passed drivers pipe place = min (sum (in_pipe (at_place passed_of place) drivers pipe)) most_count

-- and in those of one task
abbrev pub rows_in_task : List DriverState → PipeForm → ℕ → ℕ → ℕ
rows_in_task drivers pipe place task = min (sum (in_task (at_place passed_of place) drivers pipe task)) most_count

-- Of the filters of a pipe's scan, of which the first is at a place: those that are waited for, each with the rows that passed it.
abbrev pub counts_from : List DriverState → PipeForm → ℕ → List PlacedFilter → List FilterPassed
counts_from drivers pipe place [] = []
counts_from drivers pipe place (f ∷ fs) =
    if f.filter.wait then record { filter = f.filter.id; rows = rows_passed drivers pipe place } ∷ counts_from drivers pipe (place + 1) fs
    else counts_from drivers pipe (place + 1) fs

-- those of all pipes
abbrev pub counts_of : List PipeForm → List DriverState → List FilterPassed
counts_of layout drivers = flat_map (λ (pipe : PipeForm). counts_from drivers pipe 0 (scan_filters layout pipe)) layout

abbrev pub filters_in : List FilterPassed → List ℕ
filters_in counts = map (λ (count : FilterPassed). count.filter) counts

-- these are they, by ascending id, and no id comes twice
pub record AreCounts (layout : List PipeForm) (drivers : List DriverState) (counts : List FilterPassed) : Type 0 where
  pub same : IsPermutation (counts_of layout drivers) counts
  pub ascending : IsStrictlyIncreasing (filters_in counts)
