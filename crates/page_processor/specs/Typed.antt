-- Which expressions have a type over columns of given types.
use Rattle.std.specs.Prelude.{◌≡◌, List, [], ◌∷◌, Ok}
use Rattle.sql_values.specs.declared.types.SqlType.{SqlType}
use Rattle.sql_exprs.specs.Forms.{Form}
use Rattle.sql_exprs.specs.Typing.{Path, form_type}

pub record IsTyped (types : List SqlType) (form : Form) : Type 0 where
  pub path : Path
  pub kind : SqlType
  pub is : form_type types path form ≡ Ok kind

abbrev pub AllTyped : List SqlType → List Form → Type 0
AllTyped types [] = Unit {0}
AllTyped types (form ∷ forms) = IsTyped types form × AllTyped types forms
