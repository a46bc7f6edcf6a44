-- Numbers within bounds.
use Rattle.std.proofs.Common.{◌≡◌, ℕ, ◌≤◌, ◌<◌, ◌^◌, Option, Some, None, option_and_then, arith}
use Rattle.std.proofs.lemmas.Bool.Decides.{nat_tests}
use Rattle.scalar_texts.specs.Numbers.{below}
use Rattle.command_line.specs.Options.{OptionRow, within}

-- a number that within gave is within the row's bounds
pub bounds : (row : OptionRow) (number n : ℕ) → within row number ≡ Some n → (row.least ≤ n) × (n ≤ row.most)
bounds row number n h = grind (arith, nat_tests)

-- a number of more than 64 bits is out of the bounds of a row whose numbers have 64 bits
pub out_of_bounds : (row : OptionRow) (found : Option ℕ) → row.most < 2 ^ 64 → option_and_then (below (2 ^ 64)) found ≡ None → option_and_then (within row) found ≡ None
out_of_bounds row None h none = grind (arith, nat_tests)
out_of_bounds row (Some n) h none = grind (arith, nat_tests)
