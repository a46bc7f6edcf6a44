use Rattle.csv_tables.specs.Tables.{records_of}
use Rattle.csv_tables.proofs.FitLemmas.{table_few}
use Rattle.csv_tables.proofs.laws.rows_of_a_table_are_few.Goals as goal

pub returns : goal.returns
returns c = table_few c.args.columns.now c.args.limit (records_of c.args.bytes.now) c.args.rows.now c.requires.reads
