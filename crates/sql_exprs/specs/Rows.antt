-- What calls and cases make of the outcomes of their parts. Each stops at what decides it: outcomes
-- that stand after do not count.
use Rattle.std.specs.Prelude.{◌≡◌, List, [], ◌∷◌, Bool, true, false, if◌then◌else◌, Option, Some, None, unwrap_or, Result, Ok, Err}
use Rattle.std.specs.List.{list_any}
use Rattle.sql_values.specs.declared.types.SqlType.{SqlType}
use Rattle.sql_values.specs.declared.value.Value.{Value}
use Rattle.sql_values.specs.declared.value.Value.TheVariants.{Null, Boolean}
use Rattle.sql_values.specs.declared.fail.Fail.{Fail}
use Rattle.sql_values.specs.declared.fail.EvalFault.{EvalFault}
use Rattle.sql_values.specs.declared.fail.EvalFault.TheVariants as fault
use Rattle.sql_functions.specs.declared.name.CallName.{CallName}
use Rattle.sql_functions.specs.declared.name.CallName.TheVariants.{And, Or, Coalesce}
use Rattle.sql_functions.specs.Outcomes.{Outcome, and_then}
use Rattle.sql_functions.specs.Truth.{is_null, is_true, is_false}
use Rattle.sql_functions.specs.Calls.{unary_of, binary_of}

-- the values of the outcomes up to the first that decides, with it, or the failure before it
abbrev pub with_value : Value → Result (List Value) Fail → Result (List Value) Fail
with_value v (Ok vs) = Ok (v ∷ vs)
with_value v (Err kind) = Err kind

abbrev pub evaluated : (Value → Bool) → List Outcome → Result (List Value) Fail
evaluated decides [] = Ok []
evaluated decides (Err kind ∷ os) = Err kind
evaluated decides (Ok v ∷ os) =
    if decides v then Ok (v ∷ []) else with_value v (evaluated decides os)

-- what a table makes of the evaluated values
abbrev pub over : (List Value → Value) → Result (List Value) Fail → Outcome
over table (Ok vs) = Ok (table vs)
over table (Err kind) = Err kind

-- FALSE where a value is FALSE, else NULL where one is NULL, else TRUE
abbrev pub all_of : List Value → Value
all_of vs =
    if list_any is_false vs then Boolean false
    else if list_any is_null vs then Null
    else Boolean true

-- TRUE where a value is TRUE, else NULL where one is NULL, else FALSE
abbrev pub any_of : List Value → Value
any_of vs =
    if list_any is_true vs then Boolean true
    else if list_any is_null vs then Null
    else Boolean false

-- stops at the first FALSE
abbrev pub and_of : List Outcome → Outcome
and_of os = over all_of (evaluated is_false os)

-- stops at the first TRUE
abbrev pub or_of : List Outcome → Outcome
or_of os = over any_of (evaluated is_true os)

-- stops at the first value that is not NULL
abbrev pub coalesce_of : List Outcome → Outcome
coalesce_of [] = Ok Null
coalesce_of (o ∷ os) = and_then o (λ v. if is_null v then coalesce_of os else Ok v)

-- a call of one argument or of two, from the left; a call of another number of arguments is NULL
abbrev pub strict_of : CallName → List SqlType → List Outcome → Outcome
strict_of name (k ∷ []) (o ∷ []) = and_then o (unary_of name k)
strict_of name (k ∷ l ∷ []) (o ∷ p ∷ []) = and_then o (λ v. and_then p (binary_of name k l v))
strict_of name kinds os = Ok Null

abbrev pub call_of : CallName → List SqlType → List Outcome → Outcome
call_of And kinds os = and_of os
call_of Or kinds os = or_of os
call_of Coalesce kinds os = coalesce_of os
call_of name kinds os = strict_of name kinds os

-- a test that has the outcome, its result, and what later branches decide
abbrev pub decided : Outcome → Outcome → Option Outcome → Option Outcome
decided (Ok v) result rest = if is_true v then Some result else rest
decided (Err kind) result rest = Some (Err kind)

-- the result of the first test that is TRUE, if there is one
abbrev pub chosen_of : List (Outcome × Outcome) → Option Outcome
chosen_of [] = None
chosen_of (b ∷ bs) = decided b.0 b.1 (chosen_of bs)

abbrev pub case_of : List (Outcome × Outcome) → Outcome → Outcome
case_of bs other = unwrap_or (chosen_of bs) other

-- the fault is that of the branches, or memory was wanting
abbrev pub ChoiceFailsBy : Option Outcome → EvalFault → Type 0
ChoiceFailsBy chosen (fault.Fail kind) = chosen ≡ Some (Err kind)
ChoiceFailsBy chosen fault.Memory = Unit {0}
