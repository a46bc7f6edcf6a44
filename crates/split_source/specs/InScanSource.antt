-- What a `ScanSource` keeps.
use Rattle.std.specs.Prelude.{◌≡◌, ℕ, ◌-◌, ◌^◌, ◌<◌, ◌≤◌, map, drop, length, true, All, IsTrue}
use Rattle.sql_values.specs.Cells.{cut}
use Rattle.sql_values.specs.ColumnRows.{fits_row}
use Rattle.split_source.specs.Splits.{split_count, between}
use Rattle.split_source.specs.Scans.{ScanState, types_at, claimed}
use Rattle.split_source.specs.declared.scan_source.ScanSource.TheInside.{Inside}

abbrev pub scan_view : Inside → ScanState
scan_view s = record { rows = s.table.now.rows; columns = s.columns.items; types = types_at s.table.now.columns s.columns.items; size = s.size; page = s.page; seat = s.seat; left = s.high - s.low }

-- the places of the current split, of which the rows up to `low` were given
pub record AreAt (low high : ℕ) (s : ScanState) : Type 0 where
  pub order : low ≤ high
  pub within : high ≤ length s.rows
  pub still : drop (length (claimed s) - s.left) (claimed s) ≡ map (cut s.columns) (between low high s.rows)
  pub over : s.seat.is_ended ≡ true → low ≡ high

-- what never changes
pub record IsScannable (s : ScanState) : Type 0 where
  pub size : 0 < s.size
  pub page : 0 < s.page
  pub most : s.page ≤ 8192
  pub few : length s.rows < 2 ^ 32
  pub count : s.seat.claims.of.count ≡ split_count (length s.rows) s.size
  pub some : 0 < length s.columns
  pub fits : All (λ row. IsTrue (fits_row s.types (cut s.columns row))) s.rows

pub record IsScan (s : Inside) : Type 0 where
  pub scannable : IsScannable (scan_view s)
  pub columns : All (λ c. c < length s.table.now.columns) s.columns.items
  pub place : AreAt s.low s.high (scan_view s)
