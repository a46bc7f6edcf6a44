-- Which rows, and which pages, are of given types.
use Rattle.std.specs.Prelude.{◌≡◌, List, All, IsTrue}
use Rattle.sql_values.specs.declared.types.SqlType.{SqlType}
use Rattle.sql_values.specs.declared.value.Value.{Value}
use Rattle.sql_values.specs.ColumnRows.{fits_row}
use Rattle.col_pages.specs.Pages.{TypedPage}

-- each row has a value for each type, which is of it or NULL
abbrev pub AllFit : List SqlType → List (List Value) → Type 0
AllFit types rows = All (λ row. IsTrue (fits_row types row)) rows

-- a page of these types, whose rows fit them
pub record IsOfTypes (types : List SqlType) (page : TypedPage) : Type 0 where
  pub of_types : page.types ≡ types
  pub fit : AllFit types page.rows
