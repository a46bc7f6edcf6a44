-- Pages whose rows can be those of one page.
use Rattle.std.specs.Prelude.{◌≡◌, ◌+◌, ◌≤◌, length}
use Rattle.col_pages.specs.Pages.{TypedPage, most_rows}

-- they have the same types, and not too many rows
pub record FitTogether (first page : TypedPage) : Type 0 where
  pub types : first.types ≡ page.types
  pub few : length first.rows + length page.rows ≤ most_rows
