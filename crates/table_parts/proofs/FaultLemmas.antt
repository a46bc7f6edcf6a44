-- Where a fault of a part stands in the whole text.
use Rattle.std.proofs.Common.{◌≡◌, ◌<◌, ◌≤◌, ◌+◌, ℕ, refl}
use Rattle.std.proofs.lemmas.Bool.{le-leb, lt-leb}
use Rattle.csv_tables.specs.declared.fault.TableFault.TheVariants as fault
use Rattle.csv_tables.specs.Places.{too_many_rows}
use Rattle.table_parts.specs.Reading.{fault_behind}

pub stays : (limit before row column why : ℕ) → before + row ≤ limit → fault.Refused (before + row) column why ≡ fault_behind limit before (fault.Refused row column why)
stays limit before row column why h = rw (le-leb (before + row) limit h) refl

pub is_past : (limit before row column why : ℕ) → limit < before + row → fault.Refused (limit + 1) 0 too_many_rows ≡ fault_behind limit before (fault.Refused row column why)
is_past limit before row column why h = rw (lt-leb (before + row) limit h) refl

pub ruleset moves = (stays, is_past)
