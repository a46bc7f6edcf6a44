-- The texts of booleans.
use Rattle.std.specs.Prelude.{ℕ, List, Option, Some, None, Bool, true, false, if◌then◌else◌, codes}
use Rattle.std.specs.Str.{str_eq_ignore_ascii_case}

-- `true` or `false` in any mix of ASCII case
abbrev pub boolean_of : List ℕ → Option Bool
boolean_of text =
    if str_eq_ignore_ascii_case text (codes "true") then Some true
    else if str_eq_ignore_ascii_case text (codes "false") then Some false
    else None

abbrev pub boolean_text : Bool → List ℕ
boolean_text b = if b then codes "true" else codes "false"
