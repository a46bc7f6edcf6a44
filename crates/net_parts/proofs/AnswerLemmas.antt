-- What is found, and what is answered.
use Rattle.std.proofs.Common.{◌≡◌, Result, Ok, Err, IfOk, Option, Some, ap}
use Rattle.std.specs.Prelude.{unwrap_or}

pub some_same : {X : Type 0} (x y : X) → Some x ≡ Some y → x ≡ y
some_same {X} x y same = ap (λ (o : Option X). unwrap_or o x) same

pub if_so : {V E : Type 0} {P Q : V → Type 0} (r : Result V E) → ((v : V) → P v → Q v) → IfOk r P → IfOk r Q
if_so (Ok v) holds of = holds v of
if_so (Err e) holds of = tt
