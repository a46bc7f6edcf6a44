-- What stands under the keys of a JSON value. What is missing or of another kind is an empty text,
-- no entry, the number 0.
use Rattle.std.specs.Prelude.{ℕ, List, [], ◌∷◌, Bool, nat_eq, Option, Some, None, option_and_then, unwrap_or}
use Rattle.std.specs.Option.{is_some}
use Rattle.std.specs.Cmp.Lexicographic.{pointwise}
use Rattle.serde_json.specs.Data.{Data, Items, no_items, item, Members}
use Rattle.serde_json.specs.Events.{items_len, members_len}
use Rattle.serde_json.specs.Find.{get, as_array, as_object, as_number, as_str, as_u64}
use Rattle.json_paths.specs.declared.key.Key.{Key}
use Rattle.json_paths.specs.Places.{key_text}

abbrev pub same_text : List ℕ → List ℕ → Bool
same_text = pointwise nat_eq

abbrev pub under : Key → Data → Option Data
under key d = get (key_text key) d

abbrev pub has_entry : Key → Data → Bool
has_entry key d = is_some (under key d)

abbrev pub text_of : Data → List ℕ
text_of d = unwrap_or (as_str d) []

abbrev pub number_of : Data → ℕ
number_of d = unwrap_or (option_and_then as_u64 (as_number d)) 0

abbrev pub number_under : Key → Data → ℕ
number_under key d = unwrap_or (option_and_then as_u64 (option_and_then as_number (under key d))) 0

abbrev pub text_under : Key → Data → List ℕ
text_under key d = unwrap_or (option_and_then as_str (under key d)) []

abbrev pub entries_of : Items → List Data
entries_of no_items = []
entries_of (item d ds) = d ∷ entries_of ds

-- the entries of a list
abbrev pub entries : Option Items → List Data
entries None = []
entries (Some items) = entries_of items

abbrev pub entries_in : Data → List Data
entries_in d = entries (as_array d)

abbrev pub entries_under : Key → Data → List Data
entries_under key d = entries (option_and_then as_array (under key d))

-- how many entries a list has
abbrev pub count_of : Option Items → ℕ
count_of None = 0
count_of (Some items) = items_len items

abbrev pub entries_count : Data → ℕ
entries_count d = count_of (as_array d)

-- how many keys an object has
abbrev pub count_members : Option Members → ℕ
count_members None = 0
count_members (Some members) = members_len members

abbrev pub members_count : Data → ℕ
members_count d = count_members (as_object d)
