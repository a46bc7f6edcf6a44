use Rattle.std.proofs.Common.{◌∙◌, ◌++◌, FitsSigned, ap, sym, to_z-of_z, w32}
use Rattle.csv_tables.proofs.PlainLemmas.{date_plain, plain_stands}
use Rattle.csv_tables.proofs.field_texts.put_date.Goals as goal

pub returns : goal.returns
returns c =
    let range : FitsSigned w32 c.args.day = c.ranges.day in
    let printed = simp to_z-of_z at c.in_ok-print_date.ensures.ok in
    printed ∙ ap (λ text. c.args.to.now.items ++ text) (sym (plain_stands _ (date_plain c.args.day)))
