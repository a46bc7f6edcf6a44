-- One buffer that holds texts end to end, with the place where each ends.
use Rattle.std.specs.Prelude.{◌≡◌, ℕ, ◌-◌, ◌≤◌, Bool, List, [], ◌∷◌, Option, Some, None, length, take, drop}
use Rattle.std.specs.Str.{IsUtf8}

-- the bytes up to each end, from the end before it: the first piece begins at `start`
abbrev pub pieces : ℕ → List ℕ → List ℕ → List (List ℕ)
pieces start [] bytes = []
pieces start (e ∷ es) bytes = take (e - start) (drop start bytes) ∷ pieces e es bytes

-- the ends rise from `start`, and the last is the buffer's length
abbrev pub EndsRise : ℕ → List ℕ → ℕ → Type 0
EndsRise start [] len = start ≡ len
EndsRise start (e ∷ es) len = (start ≤ e) × EndsRise e es len

abbrev pub EachUtf8 : List (List ℕ) → Type 0
EachUtf8 [] = Unit {0}
EachUtf8 (t ∷ ts) = IsUtf8 t × EachUtf8 ts

-- every text has its end and its mark, the ends cover the buffer, and each text is UTF-8
pub record AreTexts (bytes : List ℕ) (ends : List ℕ) (nulls : List Bool) : Type 0 where
  pub rise : EndsRise 0 ends (length bytes)
  pub marked : length ends ≡ length nulls
  pub utf8 : EachUtf8 (pieces 0 ends bytes)

-- how many bytes a text has, none where it is missing
abbrev pub bytes_of : Option (List ℕ) → ℕ
bytes_of None = 0
bytes_of (Some text) = length text
