-- What the drivers of a layout are made of.
use Rattle.std.specs.Prelude.{◌≡◌, ℕ, ◌<◌, ◌≤◌, ◌^◌, List, All, Some, length, map, slice_get}
use Rattle.sql_values.specs.declared.table.Table.{Table}
use Rattle.sql_values.specs.declared.types.SqlType.{SqlType}
use Rattle.dyn_filter.specs.Cells.{CellState}
use Rattle.split_source.specs.Seats.{SeatState}
use Rattle.split_source.specs.Splits.{split_count}
use Rattle.driver_loop.specs.declared.stage.Stage.{Stage}
use Rattle.tree_evaluator.specs.Fits.{TablesFit}
use Rattle.tree_evaluator.specs.Stops.{rows_of_table}
use Rattle.plan_layout.specs.Filters.{filters_built}
use Rattle.plan_layout.specs.declared.filters.PlacedFilter.{PlacedFilter}
use Rattle.plan_layout.specs.Pipes.{PipeForm, SourceForm, StepForm, pipe_view, table}
use Rattle.plan_wiring.specs.Shares.{rows_at}
use Rattle.pipe_stages.specs.Makes.{LayoutFits}
use Rattle.pipe_stages.specs.Nets.{AreInFront, AreStagesFor, NetForm, front_stages, step_stages}
use Rattle.pipe_stages.specs.Types.{PipesAreTyped, PipeTypes}
use Rattle.pipe_stages.specs.Tables.{types_in}
use Rattle.pipe_stages.specs.Cells.{HasCells, HasFilterCells, cell_at}
use Rattle.seat_stocks.specs.Labels.{IsLabelled, Labels}
use Rattle.seat_stocks.specs.Lanes.{lane_at}
use Rattle.seat_stocks.specs.Shelves.{IsOn}
use Rattle.seat_stocks.specs.Stocks.{StockForm}
use Rattle.net_parts.specs.declared.making.Making.{Making}

-- the pipes of the layout
abbrev pub layout_in : Making → List PipeForm
layout_in m = map pipe_view m.pipes.now

-- and their types
abbrev pub typing_in : Making → ℕ → PipeTypes
typing_in m = types_in m.types.now

-- no table has more rows than 32 bits count
abbrev pub AreFew : List Table → Type 0
AreFew tables = All (λ table. length table.rows < 2 ^ 32) tables

-- the filter at a place in the join whose right side a pipe builds has a cell, of so many parts
pub record HasFilterCell (cells : List (List CellState)) (at place parts : ℕ) : Type 0 where
  pub cell : CellState
  pub there : cell_at cells at place ≡ Some cell
  pub count : length cell.parts ≡ parts

-- so has each filter of each join, with a part for each task
abbrev pub HaveFilterCells : List PipeForm → List (List CellState) → Type 0
HaveFilterCells layout cells = (at : ℕ) (pipe : PipeForm) → slice_get layout at ≡ Some pipe → (place : ℕ) → place < length (filters_built pipe.target)
    → HasFilterCell cells at place pipe.tasks

-- drivers can be made of it
pub record CanMake (m : Making) : Type 0 where
  pub typed : PipesAreTyped (layout_in m) (typing_in m)
  pub fits : LayoutFits m.tables.now (layout_in m) (typing_in m)
  pub readable : TablesFit m.tables.now
  pub few : AreFew m.tables.now
  pub filters : HaveFilterCells (layout_in m) m.filters.now
  pub split : 0 < m.split
  pub page : 0 < m.page
  pub most : m.page ≤ 8192

-- the pipe at a place has this source
pub record HasSource (layout : List PipeForm) (at : ℕ) (source : SourceForm) : Type 0 where
  pub pipe : PipeForm
  pub there : slice_get layout at ≡ Some pipe
  pub is : pipe.source ≡ source

-- the seats that claim for a pipe that reads a table claim its splits
abbrev pub ClaimSplits : List PipeForm → List Table → ℕ → List (List SeatState) → Type 0
ClaimSplits layout tables split claims = (at place : ℕ) (columns : List ℕ) (kinds : List SqlType) → HasSource layout at (table place columns kinds)
    → (seat : SeatState) → IsOn claims at seat → seat.claims.of.count ≡ split_count (length (rows_at tables place)) split

-- seats as they were handed out, for the pipes
pub record IsStocked (m : Making) (stock : StockForm) : Type 0 where
  pub labels : Labels
  pub labelled : IsLabelled labels stock
  pub splits : ClaimSplits (layout_in m) m.tables.now m.split stock.claims

-- in the net drivers share what these labels say
pub record IsNetFor (m : Making) (labels : Labels) (net : NetForm) : Type 0 where
  pub layout : net.layout ≡ layout_in m
  pub types : net.types ≡ typing_in m
  pub tables : net.tables ≡ map rows_of_table m.tables.now
  pub split : net.split ≡ m.split
  pub cells : HasCells net.links m.cells.now
  pub filters : HasFilterCells net.links m.filters.now
  pub claims : (at : ℕ) → net.links.claims at ≡ labels.claims at
  pub gathers : (at task : ℕ) → net.links.gathers at task ≡ labels.gathers (lane_at m.lanes.now.gathers.items at task)
  pub spreads : (at task : ℕ) → net.links.spreads at task ≡ labels.spreads (lane_at m.lanes.now.spreads.items at task)

-- so it is in each net that shares what the seats of the stock are of
abbrev pub InNets : Making → StockForm → (NetForm → Type 0) → Type 0
InNets m stock Holds = (labels : Labels) → IsLabelled labels stock → (net : NetForm) → IsNetFor m labels net → Holds net

-- the stages of a driver of the pipe at a place, in a task: one for each of these filters, and behind them one for each step
pub record AreStagesOf (net : NetForm) (at task : ℕ) (filters : List PlacedFilter) (steps : List StepForm) (stages : List Stage) : Type 0 where
  pub front : AreInFront net (net.types at).taken filters (front_stages steps stages)
  pub behind : AreStagesFor net task (net.types at).halved steps (net.types at).taken (step_stages steps stages)
