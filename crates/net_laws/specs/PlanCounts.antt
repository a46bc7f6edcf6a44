-- How many rows the dynamic filters of a plan's scans let through, in all drivers of a layout.
use Rattle.std.specs.Prelude.{◌≡◌, ◌≤◌, ℕ, List, [], ◌∷◌, All, get_or, length, map, min, slice_get, Some, sum}
use Rattle.sql_values.specs.Cells.{cell}
use Rattle.count_laws.specs.Counts.{most_count}
use Rattle.operator_core.specs.Rows.{Row}
use Rattle.plan_docs.specs.declared.node.DynamicFilter.{DynamicFilter}
use Rattle.plan_trees.specs.Allowed.{Gives, scanned, strict}
use Rattle.plan_trees.specs.declared.tree.Pair.{Pair}
use Rattle.plan_trees.specs.TreeForms.{TreeForm, pair_view}
use Rattle.plan_run_laws.specs.Spreads.{Tables}
use Rattle.driver_loop.specs.Drivers.{DriverState}
use Rattle.driver_loop.specs.Turns.{passed_of}
use Rattle.plan_layout.specs.declared.filters.PlacedFilter.{PlacedFilter}
use Rattle.plan_layout.specs.Filters.{IsPlaced, scan_filters}
use Rattle.plan_layout.specs.Pipes.{PipeForm, SourceForm, table}
use Rattle.driver_net_laws.specs.Settled.{in_pipe, listed}
use Rattle.net_laws.specs.ScanFilters.{IsCountOf, ScanFilter, up_to_id}
use Rattle.net_laws.specs.RightSides.{HasRight}

-- the column of the right side whose values are the keys of a filter
abbrev pub key_column : List Pair → DynamicFilter → ℕ
key_column on f = (get_or (map pair_view on) f.key (0, 0)).1

-- The scan's filter is this one of a join, which has these pairs: with its id, its column and whether it is waited for; its keys are those of a list
-- of rows that the right side of the join may list.
pub record IsFilterOfJoin (tree : TreeForm) (tables : Tables) (join : ℕ) (on : List Pair) (f : DynamicFilter) (s : ScanFilter) : Type 0 where
  pub id : s.id ≡ f.id
  pub column : s.column ≡ f.column
  pub waits : s.waits ≡ f.wait
  pub right : TreeForm
  pub has : HasRight tree join (map pair_view on) right
  pub rows : List Row
  pub lists : Gives strict right tables rows
  pub keys : s.keys ≡ map (λ row. cell row (key_column on f)) rows

-- so each is of its filter in the layout
abbrev pub AreFiltersOfJoins : TreeForm → Tables → List PipeForm → List PlacedFilter → List ScanFilter → Type 0
AreFiltersOfJoins tree tables layout [] [] = Unit {0}
AreFiltersOfJoins tree tables layout [] (s ∷ filters) = ⊥
AreFiltersOfJoins tree tables layout (f ∷ fs) [] = ⊥
AreFiltersOfJoins tree tables layout (f ∷ fs) (s ∷ filters) =
    ((placed : IsPlaced layout f) × IsFilterOfJoin tree tables placed.build.join placed.build.on f.filter s) × AreFiltersOfJoins tree tables layout fs filters

-- the rows that a source scans: those of a table, cut to its columns
abbrev pub rows_scanned : Tables → SourceForm → List Row
rows_scanned tables (table place columns kinds) = scanned tables place columns
rows_scanned tables source = []

-- no table has more rows than a count holds
abbrev pub AreCountable : Tables → Type 0
AreCountable tables = All (λ (rows : List Row). length rows ≤ most_count) tables

-- how many rows the dynamic filter at a place gave in a driver, where it has one there
abbrev pub passed_at : ℕ → DriverState → List ℕ
passed_at place d = listed (slice_get (passed_of d) place)

-- and in all drivers of a pipe, up to the most that a count holds
abbrev pub rows_passed : List DriverState → PipeForm → ℕ → ℕ
rows_passed drivers pipe place = min (sum (in_pipe (passed_at place) drivers pipe)) most_count

-- There are keys for each filter of a pipe's scan, such that what each filter counted is a count of those of the scanned rows that
-- pass the filters with an id up to its own.
pub record HasCounts (tree : TreeForm) (tables : Tables) (layout : List PipeForm) (drivers : List DriverState) (pipe : PipeForm) : Type 0 where
  pub filters : List ScanFilter
  pub are : AreFiltersOfJoins tree tables layout (scan_filters layout pipe) filters
  pub counts : (place : ℕ) (f : PlacedFilter) → slice_get (scan_filters layout pipe) place ≡ Some f
      → IsCountOf (up_to_id f.filter.id filters) (rows_scanned tables pipe.source) (rows_passed drivers pipe place)
