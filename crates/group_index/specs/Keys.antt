-- Keys, each at a place, and where one stands.
use Rattle.std.specs.Prelude.{◌≡◌, ℕ, List, [], length, map, slice_index_or, All, Bool, Option}
use Rattle.sql_values.specs.declared.value.Value.{Value}
use Rattle.relation_laws.specs.Equality.{same_row}
use Rattle.cell_hashes.specs.Hashes.{hash_of}
use Rattle.group_index.specs.Places.{last_below, place_before}
use Rattle.group_index.specs.Chains.{last_of_hash}

abbrev pub key_at : List (List Value) → ℕ → List Value
key_at keys place = slice_index_or keys place []

-- the key stands at the place
abbrev pub stands_at : List (List Value) → List Value → ℕ → Bool
stands_at keys key place = same_row (key_at keys place) key

-- the last place of a key, if it has one
abbrev pub place_of : List (List Value) → List Value → Option ℕ
place_of keys key = place_before (last_below (stands_at keys key) (length keys))

-- for each wanted key the last place at which it stands, none where it stands nowhere
abbrev pub StandsAt : List (List Value) → List (List Value) → List (Option ℕ) → Type 0
StandsAt keys wanted places = places ≡ map (place_of keys) wanted

-- the last place of the keys that have this key's hash: where it is sought first
abbrev pub first_guess : List (List Value) → List Value → Option ℕ
first_guess keys key = last_of_hash (map hash_of keys) (hash_of key) (length keys)

-- each key has its hash at its place
abbrev pub AreHashed : List (List Value) → List ℕ → Type 0
AreHashed keys hashes = hashes ≡ map hash_of keys

-- each key has so many cells
abbrev pub AreWide : ℕ → List (List Value) → Type 0
AreWide width keys = All (λ key. length key ≡ width) keys
