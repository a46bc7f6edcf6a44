-- Parts of a text, each read by itself.
use Rattle.std.specs.Prelude.{◌≡◌, ◌≢◌, ◌<◌, ℕ, ◌+◌, ◌-◌, ◌^◌, nat_le, if◌then◌else◌, List, length, All, Result, MatchResult}
use Rattle.csv_tables.specs.declared.fault.TableFault.{TableFault}
use Rattle.csv_tables.specs.declared.fault.TableFault.TheVariants as fault
use Rattle.csv_tables.specs.Parts.{quote}
use Rattle.csv_tables.specs.Places.{IsFaultOf, too_many_rows}
use Rattle.sql_values.specs.Columns.{kinds}
use Rattle.csv_tables.specs.Tables.{IsReadInto, records_of, rows_from, table_of}
use Rattle.sql_values.specs.ColumnRows.{TypedRows}
use Rattle.sql_values.specs.declared.types.Column.{Column}

-- what reading a part of a text asks: a limit, some columns, and a text without quotes
pub record IsPart (columns : List Column) (limit : ℕ) (text : List ℕ) : Type 0 where
  pub limited : limit < 2 ^ 32 - 1
  pub some : 0 < length columns
  pub counted : length columns < 2 ^ 32
  pub plain : All (λ b. b ≢ quote) text

-- what was read is the rows of the text's records, counted from 1; or the fault names the first place that is refused,
-- unless memory was wanting
abbrev pub IsPartRead : List Column → ℕ → List ℕ → Result TypedRows TableFault → Type 0
IsPartRead columns limit text read =
    MatchResult read (IsReadInto (rows_from columns limit 1 (records_of text)) (kinds columns)) (IsFaultOf (rows_from columns limit 1 (records_of text)))

-- what is read of this part, with rows counted from 1, is the table of the text
pub record IsUnderHeader (columns : List Column) (limit : ℕ) (text part : List ℕ) : Type 0 where
  pub is_part : IsPart columns limit part
  pub same : table_of columns limit (records_of text) ≡ rows_from columns limit 1 (records_of part)

-- a fault behind so many rows: of rows past the limit, the first decides
abbrev pub fault_behind : ℕ → ℕ → TableFault → TableFault
fault_behind limit before fault.Memory = fault.Memory
fault_behind limit before (fault.Refused row column why) =
    if nat_le (before + row) limit then fault.Refused (before + row) column why else fault.Refused (limit + 1) 0 too_many_rows
