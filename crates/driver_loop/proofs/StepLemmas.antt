-- What a turn of a driver's parts says.
use Rattle.std.proofs.Common.{◌≡◌, ℕ, Bool, true, false, Result, Ok, Err, refl}
use Rattle.std.specs.Prelude.{IsErr}
use Rattle.sql_values.specs.declared.fail.Fail.{Fail}
use Rattle.operator_core.specs.Answers.{NotMemory}
use Rattle.operator_core.specs.declared.fault.OpFault.{OpFault}
use Rattle.operator_core.specs.declared.fault.OpFault.TheVariants.{Expr, Memory}
use Rattle.driver_turns.specs.declared.turns.Turned.{Turned}

pub unfinished : (r : Result Turned OpFault) (done : Bool) → ((node : ℕ) (kind : Fail) → r ≡ Err (Expr node kind) → done ≡ false) → IsErr r → NotMemory r → done ≡ false
unfinished (Ok turned) done failed err ok = absurd (let clash : false ≡ true = err in cc)
unfinished (Err (Expr node kind)) done failed err ok = failed node kind refl
unfinished (Err Memory) done failed err ok = absurd ok
