-- The pages that an operator holds.
use Rattle.std.specs.Prelude.{◌<◌, List, [], ◌∷◌, length}
use Rattle.col_pages.specs.Pages.{TypedPage}

-- each page has a row
abbrev pub AllFull : List TypedPage → Type 0
AllFull [] = Unit {0}
AllFull (page ∷ pages) = (0 < length page.rows) × AllFull pages
