-- What was appended to nothing is a text.
use Rattle.std.proofs.Common.{◌≡◌, ◌<◌, ◌^◌, ℕ, List, [], ◌++◌, sym, subst, ℤ, pos, negsuc, FitsSigned, arith, unsigned_abs, lit<}
use Rattle.std.specs.Int.{w128}
use Rattle.std.specs.Str.{IsUtf8}

pub printed_utf8 : (bytes start text : List ℕ) → bytes ≡ start ++ text → start ≡ [] → IsUtf8 text → IsUtf8 bytes
printed_utf8 bytes start text e none h = subst IsUtf8 (sym (rw none at e)) h

-- a number of 128 bits has fewer than 64 digits
pub digits_of_128_bits : (z : ℤ) → FitsSigned w128 z → unsigned_abs z < 10 ^ 64
digits_of_128_bits (pos n) h = let top : 2 ^ 127 < 10 ^ 64 = lit< tt in omega (arith, h.sfits)
digits_of_128_bits (negsuc n) h = let top : 2 ^ 127 < 10 ^ 64 = lit< tt in omega (arith, h.sfits)
