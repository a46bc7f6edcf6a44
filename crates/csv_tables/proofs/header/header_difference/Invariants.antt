use Rattle.std.proofs.Common.{◌≡◌, drop}
use Rattle.csv.specs.Records.{fields_of}
use Rattle.csv_tables.specs.Tables.{differs_at}
use Rattle.csv_tables.proofs.header.header_difference.Given as goal

abbrev pub invariant-loop-at : goal.invariant-loop-at
invariant-loop-at l =
    differs_at 0 (fields_of l.header) l.columns ≡ differs_at l.at (drop l.at (fields_of l.header)) (drop l.at l.columns)
