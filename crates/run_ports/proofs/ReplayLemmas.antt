-- The generator's arithmetic.
use Rattle.std.proofs.Math.Nat.{mod-add-mod}

pub ruleset stepping = (mod-add-mod)
