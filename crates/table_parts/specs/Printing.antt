-- A text in chunks.
use Rattle.std.specs.Prelude.{ℕ, List, [], ◌∷◌, ◌++◌}
use Rattle.std.specs.Global.{Vec}

-- the text whose chunks stand one behind the other
abbrev pub whole_text : List (Vec ℕ) → List ℕ
whole_text [] = []
whole_text (chunk ∷ chunks) = chunk.items ++ whole_text chunks
