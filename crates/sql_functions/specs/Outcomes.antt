-- What an operation or an expression gives: a value, or why there is none.
use Rattle.std.specs.Prelude.{◌≡◌, Result, Ok, Err, IsTrue}
use Rattle.sql_values.specs.declared.types.SqlType.{SqlType}
use Rattle.sql_values.specs.declared.value.Value.{Value}
use Rattle.sql_values.specs.declared.fail.Fail.{Fail}
use Rattle.sql_values.specs.declared.fail.EvalFault.{EvalFault}
use Rattle.sql_values.specs.declared.fail.EvalFault.TheVariants as fault
use Rattle.sql_values.specs.Blocks.{fits}

abbrev pub Outcome : Type 0
Outcome = Result Value Fail

-- the outcome of what is done with a value, and the failure where there is none
abbrev pub and_then : Outcome → (Value → Outcome) → Outcome
and_then (Ok v) next = next v
and_then (Err kind) next = Err kind

-- the fault names this failure, or memory was wanting
abbrev pub FailsBy : Outcome → EvalFault → Type 0
FailsBy outcome (fault.Fail kind) = outcome ≡ Err kind
FailsBy outcome fault.Memory = Unit {0}

-- where there is a value, it has the variant of the type or is NULL
abbrev pub GivesType : SqlType → Outcome → Type 0
GivesType kind (Ok v) = IsTrue (fits kind v)
GivesType kind (Err fail) = Unit {0}
