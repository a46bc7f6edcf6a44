use Rattle.std.proofs.Common.{FitsSigned, to_z-of_z, w32}
use Rattle.scalar_texts.proofs.AsciiTexts.{any_date_utf8}
use Rattle.sql_functions.proofs.PrintLemmas.{printed_utf8}
use Rattle.sql_functions.proofs.casts.date_text.Goals as goal

pub text_of-requires : goal.text_of-requires
text_of-requires c =
    let range : FitsSigned w32 c.args.day = c.ranges.day in
    let printed = simp to_z-of_z at c.in_ok-print_date.ensures.ok in
    printed_utf8 _ _ _ printed c.new-bytes.ensures.items (any_date_utf8 c.args.day)
