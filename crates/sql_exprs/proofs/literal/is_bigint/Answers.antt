use Rattle.std.proofs.Common.{◌≡◌, true, ℤ, pos, negsuc, FitsSigned, w64, arith}
use Rattle.std.proofs.lemmas.Bool.Decides.{nat_tests}
use Rattle.scalar_texts.specs.Numbers.{has_64_bits}
use Rattle.sql_exprs.proofs.literal.is_bigint.Goals as goal

in_64_bits : (z : ℤ) → FitsSigned w64 z → true ≡ has_64_bits z
in_64_bits (pos n) h = grind (arith, nat_tests)
in_64_bits (negsuc n) h = grind (arith, nat_tests)

pub returns : goal.returns
returns c = in_64_bits c.args.n c.ranges.n
