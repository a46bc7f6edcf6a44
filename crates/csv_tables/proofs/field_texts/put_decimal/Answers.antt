use Rattle.std.proofs.Common.{◌∙◌, ◌++◌, FitsSigned, ap, sym, to_z-of_z}
use Rattle.std.specs.Int.{w128}
use Rattle.sql_values.specs.Texts.{scale_of}
use Rattle.csv_tables.proofs.PlainLemmas.{plain_stands, units_plain}
use Rattle.csv_tables.proofs.field_texts.put_decimal.Goals as goal

pub returns : goal.returns
returns c =
    let range : FitsSigned w128 c.args.unscaled = c.ranges.unscaled in
    let printed = simp to_z-of_z at c.in_ok-print_value.ensures.ok in
    printed ∙ ap (λ text. c.args.to.now.items ++ text) (sym (plain_stands _ (units_plain (scale_of c.args.kind) c.args.unscaled)))
