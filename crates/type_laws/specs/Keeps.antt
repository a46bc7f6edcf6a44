-- What it is that a call or a cast keeps to types, and forms whose casts name types.
use Rattle.std.specs.Prelude.{◌≢◌, List, [], ◌∷◌, Ok, Err, IsTrue}
use Rattle.sql_values.specs.declared.types.SqlType.{SqlType}
use Rattle.sql_values.specs.declared.value.Value.TheVariants.{Null}
use Rattle.sql_values.specs.Types.{IsType, has_type}
use Rattle.sql_functions.specs.Outcomes.{Outcome}
use Rattle.sql_exprs.specs.Forms.{Form, column, literal, null, call, cast, choice, Forms, none, more, Choices, last, branch}

-- where there is a value, it is one of the type
abbrev pub KeepsType : SqlType → Outcome → Type 0
KeepsType kind (Ok v) = IsTrue (has_type kind v)
KeepsType kind (Err fail) = Unit {0}

-- each type that a cast names is a type
abbrev mutual
  pub CastsToTypes : Form → Type 0
  CastsToTypes (column n) = Unit {0}
  CastsToTypes (literal kind value) = Unit {0}
  CastsToTypes (null kind) = Unit {0}
  CastsToTypes (call name args) = ArgsCastToTypes args
  CastsToTypes (cast arg kind) = IsType kind × CastsToTypes arg
  CastsToTypes (choice branches other) = BranchesCastToTypes branches × CastsToTypes other

  pub ArgsCastToTypes : Forms → Type 0
  ArgsCastToTypes none = Unit {0}
  ArgsCastToTypes (more form forms) = CastsToTypes form × ArgsCastToTypes forms

  pub BranchesCastToTypes : Choices → Type 0
  BranchesCastToTypes last = Unit {0}
  BranchesCastToTypes (branch test result rest) = CastsToTypes test × CastsToTypes result × BranchesCastToTypes rest

-- no outcome is NULL: each is a value or a failure
abbrev pub NoneIsNull : List Outcome → Type 0
NoneIsNull [] = Unit {0}
NoneIsNull (o ∷ os) = (o ≢ Ok Null) × NoneIsNull os
