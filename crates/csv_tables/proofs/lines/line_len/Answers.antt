use Rattle.std.proofs.Common.{arith, length}
use Rattle.csv_tables.proofs.LineLemmas.{until_end}
use Rattle.csv_tables.proofs.lines.line_len.Goals as goal

pub returns-in-Some-clause-line : goal.returns-in-Some-clause-line
returns-in-Some-clause-line c =
    let found = c.in-Some.ensures.0 in
    until_end c.args.text.now c.in-Some.end (omega (arith, found.high)) found.before

pub returns-in-None-clause-line : goal.returns-in-None-clause-line
returns-in-None-clause-line c = until_end c.args.text.now (length c.args.text.now) (omega arith) c.in-None.ensures
