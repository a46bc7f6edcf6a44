use Rattle.std.proofs.Common.{sym}
use Rattle.sql_values.specs.Cells.{lent_value}
use Rattle.csv_tables.proofs.AsciiLemmas.{number_written}
use Rattle.csv_tables.proofs.field.read_field.Goals as goal

pub returns-in-Some : goal.returns-in-Some
returns-in-Some c = number_written c.args.kind c.args.field.now (lent_value c.in-Some.value) (sym c.in-Some.ensures)
