-- Three-valued logic.
use Rattle.std.specs.Prelude.{Bool, true, false, not, ◌||◌, if◌then◌else◌}
use Rattle.sql_values.specs.declared.value.Value.{Value}
use Rattle.sql_values.specs.declared.value.Value.TheVariants.{Null, Boolean}

abbrev pub is_null : Value → Bool
is_null Null = true
is_null v = false

abbrev pub is_true : Value → Bool
is_true (Boolean truth) = truth
is_true v = false

abbrev pub is_false : Value → Bool
is_false (Boolean truth) = not truth
is_false v = false

abbrev pub truth_not : Value → Value
truth_not (Boolean truth) = Boolean (not truth)
truth_not v = Null

-- FALSE where a side is FALSE, else NULL where a side is NULL, else TRUE
abbrev pub truth_and : Value → Value → Value
truth_and v w =
    if is_false v || is_false w then Boolean false
    else if is_null v || is_null w then Null
    else Boolean true

-- TRUE where a side is TRUE, else NULL where a side is NULL, else FALSE
abbrev pub truth_or : Value → Value → Value
truth_or v w =
    if is_true v || is_true w then Boolean true
    else if is_null v || is_null w then Null
    else Boolean false
