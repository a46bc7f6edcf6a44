use Rattle.std.proofs.Common.{◌≡◌, ◌<◌, ◌^◌, drop}
use Rattle.scalar_texts.specs.Numbers.{number_of, digits_after}
use Rattle.scalar_texts.proofs.digits.number.Given as goal

-- what was read so far, then the rest
abbrev pub invariant-loop-byte : goal.invariant-loop-byte
invariant-loop-byte l =
    record { whole : number_of l.digits ≡ digits_after l.number (drop l.byte-index l.digits); in_range : l.number < 2 ^ 64 }
