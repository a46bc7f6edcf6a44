-- Bytes without quotes, read line by line. What their records are is said by `csv` alone; that each is a line's fields is proved.
use Rattle.std.specs.Prelude.{ℕ, Bool, ◌==◌, ◌||◌, if◌then◌else◌, List, [], ◌∷◌, ◌++◌, Option, None, Some}
use Rattle.csv.specs.Reading.{default_config, records}

abbrev pub comma : ℕ
comma = 44

-- whether a byte ends a line
abbrev pub ends_line : ℕ → Bool
ends_line b = (b == 13) || (b == 10)

-- what stands between commas, where some bytes of the first field were read
abbrev pub fields_behind : List ℕ → List ℕ → List (List ℕ)
fields_behind field [] = field ∷ []
fields_behind field (b ∷ rest) = if b == comma then field ∷ fields_behind [] rest else fields_behind (field ++ (b ∷ [])) rest

-- the fields of a line
abbrev pub fields_of_line : List ℕ → List (List ℕ)
fields_of_line line = fields_behind [] line

-- the fields that are left of a line, after the last of which nothing stands
abbrev pub fields_left : Option (List ℕ) → List (List ℕ)
fields_left None = []
fields_left (Some rest) = fields_of_line rest

-- the records of bytes with no byte order mark
abbrev pub records_in : List ℕ → List (List (List ℕ))
records_in bytes = records default_config bytes
