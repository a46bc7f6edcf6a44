-- A source that fetches the pages of an edge, as it is seen.
use Rattle.std.specs.Prelude.{◌≡◌, ◌≢◌, ℕ, ◌-◌, ◌⊎◌, ◌&&◌, ◌==◌, List, [], ◌++◌, Bool, true, false, length, take}
use Rattle.sql_values.specs.declared.value.Value.{Value}
use Rattle.col_pages.specs.Pages.{TypedPage}
use Rattle.output_buffer.specs.Partitions.{all_rows}
use Rattle.output_buffer.specs.Seats.{GatherTakeState, new_gather_take, rows_of_pieces}
use Rattle.exchange_client.specs.Fetches.{FetchState, rest}
use Rattle.stage_moves.specs.Looks.{Looks}
use Rattle.driver_ends.specs.Ends.{local_ended, local_looks}
use Rattle.driver_ends.specs.Outlets.{rows_of_held}
use Rattle.driver_ends.specs.Sources.{IsLocalEnded, LocalState, local_dues, new_local}

-- where it takes its pages, the fetch that they go through, and the pages that arrived and were not handed on yet
pub record FetchingState : Type 0 where
  pub local : LocalState
  pub fetch : FetchState
  pub pages : List TypedPage

-- a fetch to which nothing was put, once its courier missed so many turns
abbrev pub new_fetch : ℕ → ℕ → FetchState
new_fetch missed most = record {
  window = record { base = 0; held = []; is_ended = false };
  client = record { next = 0; is_complete = false };
  kept = [];
  missed = missed;
  fruitless = 0;
  most = most;
}

abbrev pub new_fetching : GatherTakeState → ℕ → ℕ → FetchingState
new_fetching seat missed most = record { local = new_local seat; fetch = new_fetch missed most; pages = [] }

-- the rows that were taken and not handed on: those of the pages that arrived, of the pages that the fetch is still to
-- give, and of a page that could not be put to it for want of memory
abbrev pub left_of : LocalState → FetchState → List TypedPage → List (List Value)
left_of local fetch pages = all_rows (pages ++ rest fetch) ++ rows_of_held local.inbox

abbrev pub rows_left : FetchingState → List (List Value)
rows_left s = left_of s.local s.fetch s.pages

-- these rows were handed on: with those that are left they are what the seat took, in order
abbrev pub HasFetchTaken : FetchingState → List (List Value) → Type 0
HasFetchTaken s taken = rows_of_pieces s.local.seat.took ≡ taken ++ rows_left s

-- all rows but the last, which are those that are left
abbrev pub all_but : List (List Value) → List (List Value) → List (List Value)
all_but rows left = take (length rows - length left) rows

abbrev pub fetch_taken : FetchingState → List (List Value)
fetch_taken s = all_but (rows_of_pieces s.local.seat.took) (rows_left s)

-- what is left is the last of what was taken, and the fetch ends only once every End was taken and every page was put
pub record KeepsLeft (local : LocalState) (fetch : FetchState) (pages : List TypedPage) : Type 0 where
  pub before : List (List Value)
  pub whole : rows_of_pieces local.seat.took ≡ before ++ left_of local fetch pages
  pub over : fetch.window.is_ended ≡ true → IsLocalEnded local

-- nothing is left to take, to fetch or to hand on
pub record IsFetchEnded (s : FetchingState) : Type 0 where
  pub ended : IsLocalEnded s.local
  pub complete : s.fetch.client.is_complete ≡ true
  pub none : rest s.fetch ≡ []
  pub clear : s.pages ≡ []

abbrev pub fetch_ended : FetchingState → Bool
fetch_ended s = s.fetch.client.is_complete && (local_ended s.local && length s.pages == 0)

-- it as it was made, but for the turns that its courier had missed by then
abbrev pub fetch_as_made : FetchingState → FetchingState
fetch_as_made s = new_fetching (new_gather_take s.local.seat.edge s.local.seat.putters) 0 s.fetch.most

abbrev pub fetch_looks : FetchingState → Looks
fetch_looks s = local_looks s.local

abbrev pub fetch_misses : FetchingState → ℕ
fetch_misses s = s.fetch.missed

abbrev pub fetch_dues : FetchingState → ℕ → ℕ
fetch_dues s bell = local_dues s.local bell

-- an ask brings no page, though some are still to be given, or it is ended and not complete
abbrev pub IsBehind : FetchState → Type 0
IsBehind f = (rest f ≢ []) ⊎ ((f.window.is_ended ≡ true) × (f.client.is_complete ≡ false))
