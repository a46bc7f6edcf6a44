-- Texts of lines, each ended by a line feed.
use Rattle.std.specs.Prelude.{ℕ, List, [], ◌∷◌, ◌++◌}
use Rattle.std.specs.List.{flat_map, range_with_len}

-- two fields as a line
abbrev pub two_fields : List ℕ → List ℕ → List ℕ
two_fields first second = first ++ 44 ∷ (second ++ 10 ∷ [])

-- the first n lines, one after the other
unfoldable pub lines : (ℕ → List ℕ) → ℕ → List ℕ
lines line n = flat_map line (range_with_len 0 n)
