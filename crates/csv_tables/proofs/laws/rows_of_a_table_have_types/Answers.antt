use Rattle.csv_tables.specs.Tables.{records_of}
use Rattle.csv_tables.proofs.FitLemmas.{table_has_types}
use Rattle.csv_tables.proofs.laws.rows_of_a_table_have_types.Goals as goal

pub returns : goal.returns
returns c = table_has_types c.args.columns.now c.args.limit (records_of c.args.bytes.now) c.args.rows.now c.requires.types c.requires.table.reads
