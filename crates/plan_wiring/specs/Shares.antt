-- What the drivers of a pipe share with each other, or with those of another pipe, as it is made from the layout.
use Rattle.std.specs.Prelude.{ℕ, ◌+◌, ◌*◌, max, List, [], ◌∷◌, Bool, false, ◌==◌, Option, Some, None, length, option_map, replicate, slice_get, unwrap_or}
use Rattle.sql_values.specs.declared.table.Table.{Table}
use Rattle.sql_values.specs.declared.value.Value.{Value}
use Rattle.split_source.specs.Splits.{split_count}
use Rattle.plan_layout.specs.Edges.{count_if}
use Rattle.plan_layout.specs.Filters.{filters_built}
use Rattle.plan_layout.specs.Pipes.{PipeForm, SourceForm, TargetForm, table, sides, fragment, edge, cell, side, readers}

-- how many numbers of splits there are to claim, for how many seats, and whether these were handed out
pub record ClaimForm : Type 0 where
  pub count : ℕ
  pub seats : ℕ
  pub is_handed_out : Bool

-- how many seats there are on the side of an edge that may have many, for how many pieces it has room, and whether its
-- seats were handed out
pub record EdgeForm : Type 0 where
  pub seats : ℕ
  pub room : ℕ
  pub is_handed_out : Bool

pub record ShareForm : Type 0 where
  pub claims : Option ClaimForm
  pub gathers : List EdgeForm
  pub spreads : List EdgeForm
  -- how many there are
  pub cells : ℕ
  -- how many parts each cell of a dynamic filter has
  pub filters : List ℕ

-- a seat is made also where no driver is there to have it
abbrev pub new_claims : ℕ → ℕ → ClaimForm
new_claims count seats = record { count = count; seats = max seats 1; is_handed_out = false }

abbrev pub new_edge : ℕ → EdgeForm
new_edge seats = record { seats = max seats 1; room = 32; is_handed_out = false }

abbrev pub gives_to_reader : ℕ → TargetForm → Bool
gives_to_reader at (readers output pipe) = pipe == at
gives_to_reader at target = false

abbrev pub gives_to_union : ℕ → TargetForm → Bool
gives_to_union at (side pipe) = pipe == at
gives_to_union at target = false

-- the drivers, in all tasks, that put to each edge of the pipe at a place, which reads their fragment
abbrev pub fragment_putters : ℕ → List PipeForm → ℕ
fragment_putters at [] = 0
fragment_putters at (pipe ∷ pipes) = count_if (gives_to_reader at pipe.target) (pipe.tasks * pipe.drivers) + fragment_putters at pipes

-- the drivers, in one task, of the sides of the union at a place
abbrev pub union_putters : ℕ → List PipeForm → ℕ
union_putters at [] = 0
union_putters at (pipe ∷ pipes) = count_if (gives_to_union at pipe.target) pipe.drivers + union_putters at pipes

-- the rows of the table at a place; where there is none, no rows
abbrev pub rows_at : List Table → ℕ → List (List Value)
rows_at tables place = unwrap_or (option_map (λ t. t.rows) (slice_get tables place)) []

-- the drivers in all tasks claim the splits of one table together
abbrev pub claims_of : List Table → ℕ → ℕ → SourceForm → Option ClaimForm
claims_of tables split drivers (table place columns types) = Some (new_claims (split_count (length (rows_at tables place)) split) drivers)
claims_of tables split drivers source = None

-- an edge for each task, of many putters, to fetch from or to take a union from
abbrev pub gathers_of : List PipeForm → ℕ → ℕ → SourceForm → List EdgeForm
gathers_of layout own tasks (edge at numbers) = replicate tasks (new_edge (fragment_putters at layout))
gathers_of layout own tasks sides = replicate tasks (new_edge (union_putters own layout))
gathers_of layout own tasks source = []

-- an edge for each task, from what fetches to the drivers that read
abbrev pub spreads_of : ℕ → ℕ → SourceForm → List EdgeForm
spreads_of tasks drivers (fragment number) = replicate tasks (new_edge drivers)
spreads_of tasks drivers source = []

-- a cell for each task
abbrev pub cells_of : ℕ → TargetForm → ℕ
cells_of tasks (cell build) = tasks
cells_of tasks target = 0

-- for each dynamic filter of a join one cell with a part for each task that builds. A part is made also where no task is
-- there to have it
abbrev pub filter_parts : ℕ → TargetForm → List ℕ
filter_parts tasks target = replicate (length (filters_built target)) (max tasks 1)

-- what the pipe at a place of the layout has
abbrev pub share_of : List PipeForm → List Table → ℕ → ℕ → PipeForm → ShareForm
share_of layout tables split own pipe = record {
  claims = claims_of tables split (pipe.tasks * pipe.drivers) pipe.source;
  gathers = gathers_of layout own pipe.tasks pipe.source;
  spreads = spreads_of pipe.tasks pipe.drivers pipe.source;
  cells = cells_of pipe.tasks pipe.target;
  filters = filter_parts pipe.tasks pipe.target;
}

-- what these pipes have, of which the first is at a place
abbrev pub shares_of : List PipeForm → List Table → ℕ → ℕ → List PipeForm → List ShareForm
shares_of layout tables split at [] = []
shares_of layout tables split at (pipe ∷ pipes) = share_of layout tables split at pipe ∷ shares_of layout tables split (at + 1) pipes
