use Rattle.std.specs.Prelude.{FitsSigned}
use Rattle.std.specs.Int.{w128}
use Rattle.std.proofs.lemmas.Int.{to_z-of_z}
use Rattle.csv_tables.proofs.ReadBackLemmas.{decimal_back}
use Rattle.csv_tables.proofs.laws.decimal_reads_back.Goals as goal

pub returns : goal.returns
returns c =
    let fits : FitsSigned w128 c.args.unscaled = c.ranges.unscaled in
    decimal_back c.args.p c.args.s c.args.unscaled c.requires.is_type.1 c.requires.digits (simp to_z-of_z at c.text_reads_back.ensures)
