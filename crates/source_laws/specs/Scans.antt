-- Scans that read one table together, each by a seat of its own.
use Rattle.std.specs.Prelude.{◌≡◌, ◌<◌, ℕ, List, All, flat_map, length, map, true}
use Rattle.sql_values.specs.declared.value.Value.{Value}
use Rattle.split_source.specs.Scans.{ScanState, given}
use Rattle.split_source.specs.Seats.{AreAllOf, ClaimsId, SeatState}
use Rattle.split_source.specs.Splits.{split_count}

abbrev pub seats_of : List ScanState → List SeatState
seats_of scans = map (λ scan. scan.seat) scans

abbrev pub rows_scanned : List ScanState → List (List Value)
rows_scanned scans = flat_map given scans

-- the scan reads these columns of these rows, in splits of this size
pub record IsScanOf (rows : List (List Value)) (columns : List ℕ) (size : ℕ) (scan : ScanState) : Type 0 where
  pub of : scan.rows ≡ rows
  pub cut_to : scan.columns ≡ columns
  pub sized : scan.size ≡ size

-- so do all of them, by all seats of the claims of the table's splits
pub record AreScansOf (rows : List (List Value)) (columns : List ℕ) (size : ℕ) (scans : List ScanState) : Type 0 where
  pub claims : ClaimsId
  pub seats : AreAllOf claims (seats_of scans)
  pub each : All (IsScanOf rows columns size) scans
  pub some : 0 < size
  pub count : claims.of.count ≡ split_count (length rows) size

abbrev pub AreEnded : List ScanState → Type 0
AreEnded scans = All (λ scan. scan.seat.is_ended ≡ true) scans

-- a scan that has ended has no row left
abbrev pub AreDrained : List ScanState → Type 0
AreDrained scans = All (λ scan. scan.seat.is_ended ≡ true → scan.left ≡ 0) scans
