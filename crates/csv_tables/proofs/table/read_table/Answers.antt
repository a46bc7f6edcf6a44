use Rattle.std.proofs.Common.{rules, ◌≡◌, true, None}
use Rattle.csv.specs.Records.{fields_of}
use Rattle.csv_tables.specs.Records.{GivesRecord}
use Rattle.csv_tables.specs.Tables.{differs_at, records_of}
use Rattle.csv_tables.proofs.BuildLemmas.{names_some}
use Rattle.csv_tables.proofs.table.read_table.Goals as goal

pub empty_rows-requires : goal.empty_rows-requires
empty_rows-requires c =
    let header = fields_of c.next.new.line in
    let given : GivesRecord true header (records_of c.args.bytes.now) c.next.new.self = search rules in
    let same : differs_at 0 header c.args.columns.now ≡ None = search rules in
    names_some c.args.columns.now c.args.bytes.now header c.next.new.self given same
