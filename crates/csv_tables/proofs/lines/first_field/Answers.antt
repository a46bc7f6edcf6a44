use Rattle.csv_tables.proofs.LineLemmas.{more_fields}
use Rattle.csv_tables.proofs.lines.first_field.Goals as goal

pub returns : goal.returns
returns c =
    let found = c.in-Some.ensures in
    more_fields c.args.line.now c.split_at.result.0.now c.split_at.result.1.now c.split_at-2.result.1.now c.in-Some.at
    c.split_at.ensures.front c.split_at.ensures.back c.split_at-2.ensures.back found.0.high found.0.before found.1
