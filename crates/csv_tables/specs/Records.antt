-- What a reader of records has left.
use Rattle.std.specs.Prelude.{ℕ, ◌+◌, Bool, true, false, List, [], ◌∷◌, length, Option, Some, None, IsSome, ◌≡◌, ◌⊎◌}
use Rattle.csv.specs.Reading.{Ready, default_config, has_failed, is_flexible, reader_config, reader_state, reader_trim, records_from, source_of}
use Rattle.csv.specs.declared.parser.State.{State}
use Rattle.csv.specs.declared.reader.Reader.{Reader}
use Rattle.csv.specs.declared.reader.Trim.TheVariants as trim
use Rattle.sql_values.specs.declared.types.Column.{Column}
use Rattle.csv_tables.specs.Fields.{same_bytes}

-- the records of bytes that are left, from a state of the machine
abbrev pub left_from : State → Option (List ℕ) → List (List (List ℕ))
left_from state None = []
left_from state (Some bytes) = records_from default_config (length bytes + 1) state bytes

abbrev pub records_left : {R : Type 0} → (R → Option (List ℕ)) → Reader R → List (List (List ℕ))
records_left rem r = left_from (reader_state r) (source_of rem r)

-- a reader with the settings of this crate, at a record of known bytes
pub record Reads {R : Type 0} (rem : R → Option (List ℕ)) (r : Reader R) : Type 0 where
  pub config : reader_config r ≡ default_config
  pub plain : reader_trim r ≡ trim.None
  pub flexible : is_flexible r ≡ true
  pub ready : Ready r
  pub known : IsSome (source_of rem r)

-- such a reader, or one that has failed and gives nothing more
abbrev pub IsReading : {R : Type 0} → (R → Option (List ℕ)) → Reader R → Type 0
IsReading rem r = Reads rem r ⊎ (has_failed r ≡ true)

-- the first of the records that were left, if there was one, and then the others are left
abbrev pub GivesRecord : Bool → List (List ℕ) → List (List (List ℕ)) → List (List (List ℕ)) → Type 0
GivesRecord true fields before after = before ≡ fields ∷ after
GivesRecord false fields before after = before ≡ []

-- whether a field, if there is one, is the name of the column
abbrev pub names_column : Column → Option (List ℕ) → Bool
names_column column None = false
names_column column (Some field) = same_bytes field column.name
