-- The matcher's rows: whether each end of a text passes, from the empty end on. Texts and patterns
-- stand here with their last code point first.
use Rattle.std.specs.Prelude.{ℕ, List, [], ◌∷◌, Bool, false, ◌&&◌, ◌||◌, ◌==◌, if◌then◌else◌}
use Rattle.sql_functions.specs.Like.{percent_sign, takes}

-- the end that is there already, and then the ends that the further code points make
abbrev pub ends_from : List ℕ → (List ℕ → Bool) → List ℕ → List Bool
ends_from end passes [] = passes end ∷ []
ends_from end passes (c ∷ rest) = passes end ∷ ends_from (c ∷ end) passes rest

-- each place says whether it or one before it is set
abbrev pub set_from : Bool → List Bool → List Bool
set_from seen [] = []
set_from seen (b ∷ bs) = (seen || b) ∷ set_from (seen || b) bs

-- each place says whether the code point is taken and the place is set
abbrev pub moved : ℕ → List ℕ → List Bool → List Bool
moved p [] row = []
moved p (c ∷ cs) [] = []
moved p (c ∷ cs) (b ∷ bs) = (takes p c && b) ∷ moved p cs bs

-- the row of a pattern that begins with one more code point
abbrev pub next_row : ℕ → List ℕ → List Bool → List Bool
next_row p text row =
    if p == percent_sign then set_from false row else false ∷ moved p text row
