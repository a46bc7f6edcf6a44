use Rattle.csv_tables.proofs.ReadBackLemmas.{null_back}
use Rattle.csv_tables.proofs.laws.field_reads_back.Goals as goal

pub returns-in_default-Null : goal.returns-in_default-Null
returns-in_default-Null c = rw c.in_default-Null.is-1 (null_back c.args.kind)
