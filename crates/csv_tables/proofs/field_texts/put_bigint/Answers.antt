use Rattle.std.proofs.Common.{◌∙◌, ◌++◌, FitsSigned, ap, sym, to_z-of_z, w64}
use Rattle.csv_tables.proofs.PlainLemmas.{signed_plain, plain_stands}
use Rattle.csv_tables.proofs.field_texts.put_bigint.Goals as goal

pub returns : goal.returns
returns c =
    let range : FitsSigned w64 c.args.number = c.ranges.number in
    let printed = simp to_z-of_z at c.in_ok-print_bigint.ensures.ok in
    printed ∙ ap (λ text. c.args.to.now.items ++ text) (sym (plain_stands _ (signed_plain c.args.number)))
