use Rattle.std.proofs.Common.{to_z-of_z, w64}
use Rattle.csv_tables.proofs.ReadBackLemmas.{bigint_back}
use Rattle.csv_tables.proofs.laws.bigint_reads_back.Goals as goal

pub returns : goal.returns
returns c = bigint_back c.args.n c.ranges.n.sfits (rw (to_z-of_z {w = w64} {z = c.args.n} c.ranges.n) at c.text_reads_back.ensures)
