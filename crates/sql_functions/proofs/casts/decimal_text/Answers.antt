use Rattle.std.proofs.Common.{FitsSigned, to_z-of_z}
use Rattle.std.specs.Int.{w128}
use Rattle.scalar_texts.proofs.AsciiTexts.{wide_decimal_utf8}
use Rattle.sql_functions.proofs.PrintLemmas.{digits_of_128_bits, printed_utf8}
use Rattle.sql_functions.proofs.casts.decimal_text.Goals as goal

pub text_of-requires : goal.text_of-requires
text_of-requires c =
    let range : FitsSigned w128 c.args.unscaled = c.ranges.unscaled in
    let printed = simp to_z-of_z at c.in_ok-print_decimal.ensures.ok in
    printed_utf8 _ _ _ printed c.new-bytes.ensures.items (wide_decimal_utf8 c.args.s c.args.unscaled (digits_of_128_bits c.args.unscaled range))
