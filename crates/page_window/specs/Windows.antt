-- A window on the pages that were ever put, of which those that were acknowledged are dropped.
use Rattle.std.specs.Prelude.{◌≡◌, ℕ, ◌+◌, ◌-◌, ◌≤◌, List, ◌∷◌, ◌++◌, [], length, drop, max, Bool}
use Rattle.col_pages.specs.Pages.{TypedPage}

-- the token of the first page that is held, the pages that are held, and whether no more will come
pub record WindowState : Type 0 where
  pub base : ℕ
  pub held : List TypedPage
  pub is_ended : Bool

-- the token behind the last page
abbrev pub end_of : WindowState → ℕ
end_of w = w.base + length w.held

-- a window on these pages, the first put first: a page's token is its place, and those before the base are dropped
pub record IsWindowOf (put : List TypedPage) (w : WindowState) : Type 0 where
  pub within : w.base ≤ length put
  pub held : w.held ≡ drop w.base put

-- the held pages from a token on
abbrev pub from_token : WindowState → ℕ → List TypedPage
from_token w token = drop (token - w.base) w.held

-- the window after one more page
abbrev pub pushed : WindowState → TypedPage → WindowState
pushed w page = record w { held = w.held ++ page ∷ [] }

-- the window without the pages below a token
abbrev pub acknowledged : WindowState → ℕ → WindowState
acknowledged w token = record w { base = max w.base token; held = from_token w token }
