-- What the drivers of a layout share.
use Rattle.std.specs.Prelude.{◌≡◌, ℕ, ◌++◌, List, flat_map, length, map, option_map}
use Rattle.std.specs.List.{range_with_len}
use Rattle.sql_values.specs.declared.table.Table.{Table}
use Rattle.split_source.specs.Seats.{ClaimsState}
use Rattle.hash_join.specs.Cells.{CellState}
use Rattle.dyn_filter.specs.Cells as filter
use Rattle.output_buffer.specs.Seats.{GatherState, SpreadState}
use Rattle.plan_layout.specs.Pipes.{PipeForm}
use Rattle.plan_wiring.specs.declared.shared.Shared.{Shared}
use Rattle.plan_wiring.specs.declared.wiring.Wiring.{Wiring}
use Rattle.plan_wiring.specs.Bells.{gather_bells, spread_bells}
use Rattle.plan_wiring.specs.Shares.{ClaimForm, EdgeForm, ShareForm, shares_of}

abbrev pub claims_view : ClaimsState → ClaimForm
claims_view claims = record { count = claims.id.of.count; seats = claims.id.of.seats; is_handed_out = claims.is_handed_out }

abbrev pub gather_view : GatherState → EdgeForm
gather_view gather = record { seats = gather.putters; room = gather.edge.room; is_handed_out = gather.is_handed_out }

abbrev pub spread_view : SpreadState → EdgeForm
spread_view spread = record { seats = spread.takers; room = spread.edge.room; is_handed_out = spread.is_handed_out }

abbrev pub parts_of : filter.CellState → ℕ
parts_of cell = length cell.parts

abbrev pub share_view : Shared → ShareForm
share_view shared = record {
  claims = option_map claims_view shared.claims;
  gathers = map gather_view shared.gathers.items;
  spreads = map spread_view shared.spreads.items;
  cells = length shared.cells.items;
  filters = map parts_of shared.filters.items;
}

abbrev pub cell_bells : List CellState → List ℕ
cell_bells cells = map (λ (cell : CellState). cell.bell) cells

abbrev pub filter_bells : List filter.CellState → List ℕ
filter_bells cells = map (λ (cell : filter.CellState). cell.bell) cells

-- the bells of what a pipe has: two of each edge, and one of each cell
abbrev pub bells_of : Shared → List ℕ
bells_of shared =
    flat_map gather_bells shared.gathers.items ++ flat_map spread_bells shared.spreads.items ++ cell_bells shared.cells.items
    ++ filter_bells shared.filters.items

-- pipe by pipe as the layout asks, with the bells from 0 on, each one once
pub record IsWiringOf (layout : List PipeForm) (tables : List Table) (split : ℕ) (wiring : Wiring) : Type 0 where
  pub shares : map share_view wiring.pipes.items ≡ shares_of layout tables split 0 layout
  pub bells : flat_map bells_of wiring.pipes.items ≡ range_with_len 0 wiring.bells
