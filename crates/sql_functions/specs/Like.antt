-- LIKE over code points: the pattern matches the whole text.
use Rattle.std.specs.Prelude.{ℕ, List, [], ◌∷◌, Bool, true, false, ◌&&◌, ◌||◌, ◌==◌, if◌then◌else◌, chars}
use Rattle.sql_values.specs.declared.value.Value.{Value}
use Rattle.sql_values.specs.declared.value.Value.TheVariants.{Null, Boolean, Varchar}

abbrev pub is_empty : List ℕ → Bool
is_empty [] = true
is_empty (c ∷ cs) = false

-- some end of the text passes, the whole and the empty one among them
abbrev pub some_end : (List ℕ → Bool) → List ℕ → Bool
some_end passes [] = passes []
some_end passes (c ∷ cs) = passes (c ∷ cs) || some_end passes cs

abbrev pub underscore : ℕ
underscore = 95

abbrev pub percent_sign : ℕ
percent_sign = 37

-- `_` takes each code point, and every other one itself
abbrev pub takes : ℕ → ℕ → Bool
takes p c = (p == underscore) || (p == c)

-- the first code point is taken and the rest passes
abbrev pub after_first : ℕ → (List ℕ → Bool) → List ℕ → Bool
after_first p passes [] = false
after_first p passes (c ∷ cs) = takes p c && passes cs

-- after `%` the rest of the pattern matches some end of the text
abbrev pub is_like : List ℕ → List ℕ → Bool
is_like [] text = is_empty text
is_like (p ∷ ps) text =
    if p == percent_sign then some_end (is_like ps) text else after_first p (is_like ps) text

abbrev pub like_text : List ℕ → Value → Value
like_text text (Varchar pattern) = Boolean (is_like (chars pattern) (chars text))
like_text text w = Null

abbrev pub like_of : Value → Value → Value
like_of (Varchar text) w = like_text text w
like_of v w = Null
