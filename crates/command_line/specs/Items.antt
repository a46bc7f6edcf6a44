-- What stands on a command line: options with their values, and other arguments.
use Rattle.std.specs.Prelude.{ℕ, List, [], ◌∷◌, length, map, Bool, false, not, ◌&&◌, ◌==◌, nat_eq, nat_lt, slice_index, Option, Some, None, drop, option_map, if◌then◌else◌}
use Rattle.std.specs.List.{after_first, before_first, list_any}
use Rattle.std.specs.Cmp.Lexicographic.{pointwise}

abbrev pub same_text : List ℕ → List ℕ → Bool
same_text = pointwise nat_eq

-- the byte of `-`
abbrev pub dash : ℕ
dash = 45

abbrev pub begins_with_dash : List ℕ → Bool
begins_with_dash word = nat_lt 0 (length word) && slice_index word 0 == dash

-- what begins with `-` is an option, or ends the options; `-` alone is neither
abbrev pub is_option : List ℕ → Bool
is_option [] = false
is_option (byte ∷ []) = false
is_option (byte ∷ next ∷ rest) = byte == dash

-- the argument that ends the options, `--`
abbrev pub end_of_options : List ℕ
end_of_options = dash ∷ dash ∷ []

-- an argument that begins with `--`
abbrev pub begins_with_dashes : List ℕ → Bool
begins_with_dashes [] = false
begins_with_dashes (byte ∷ []) = false
begins_with_dashes (byte ∷ next ∷ rest) = byte == dash && next == dash

-- the byte of `=`
abbrev pub is_equals_sign : ℕ → Bool
is_equals_sign byte = byte == 61

abbrev pub has_equals_sign : List ℕ → Bool
has_equals_sign word = list_any is_equals_sign word

-- the two parts of an argument round its first `=`
abbrev pub first_part : List ℕ → List ℕ
first_part word = before_first is_equals_sign word

abbrev pub second_part : List ℕ → List ℕ
second_part word = after_first is_equals_sign word

-- an option, by its name, with what is written for it, or an argument that is none
pub data Item : Type 0 where
  valued : List ℕ → List ℕ → Item
  named : List ℕ → Item

abbrev pub before : Item → Option (List Item) → Option (List Item)
before item = option_map (λ items. item ∷ items)

-- the items of arguments, behind an option that still has no value if there is one; None where nothing is written for
-- an option, or an argument begins with one `-`. An option is `--name=value`, or `--name` and the argument behind it,
-- which is then no option itself. Behind an argument `--` there are no options.
abbrev pub items_from : Option (List ℕ) → List (List ℕ) → Option (List Item)
items_from None [] = Some []
items_from (Some name) [] = None
items_from (Some name) (value ∷ words) =
    if is_option value then None else before (valued name value) (items_from None words)
items_from None (word ∷ words) =
    if not (is_option word) then before (named word) (items_from None words)
    else if same_text word end_of_options then Some (map named words)
    else if not (begins_with_dashes word) then None
    else if has_equals_sign (drop 2 word)
    then before (valued (first_part (drop 2 word)) (second_part (drop 2 word))) (items_from None words)
    else items_from (Some (drop 2 word)) words

abbrev pub items_of : List (List ℕ) → Option (List Item)
items_of words = items_from None words

-- the arguments that are no options and belong to none
abbrev pub named_in : List Item → List (List ℕ)
named_in [] = []
named_in (valued name value ∷ items) = named_in items
named_in (named word ∷ items) = word ∷ named_in items
