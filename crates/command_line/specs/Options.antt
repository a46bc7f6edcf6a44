-- The options: which ones there are, and what each is given.
use Rattle.std.specs.Prelude.{ℕ, List, [], ◌∷◌, Bool, true, false, not, ◌&&◌, ◌-◌, ◌^◌, nat_le, Option, Some, None, is_some, option_and_then, if◌then◌else◌, codes}
use Rattle.std.specs.List.{list_all, list_any}
use Rattle.std.specs.Option.{option_map_or}
use Rattle.scalar_texts.specs.Numbers.{number_of}
use Rattle.command_line.specs.Items.{Item, valued, named, begins_with_dash, same_text}
use Rattle.command_line.specs.declared.options.NumberOption.{NumberOption}
use Rattle.command_line.specs.declared.options.NumberOption.TheVariants as option
use Rattle.command_line.specs.declared.options as options

-- the row of an option in the table of options: its name, the least and the greatest number that it may be given, and
-- the one that it has where it is not given
pub record OptionRow : Type 0 where
  pub name : List ℕ
  pub least : ℕ
  pub most : ℕ
  pub usual : ℕ

abbrev pub row_of : NumberOption → OptionRow
row_of option.Demo = record { name = codes "demo"; least = 0; most = 2 ^ 64 - 1; usual = 0 }
row_of option.Split = record { name = codes "split"; least = 1; most = 1000000; usual = 10000 }
row_of option.Page = record { name = codes "page"; least = 1; most = 8192; usual = 1024 }
row_of option.Quantum = record { name = codes "quantum"; least = 1; most = 1000000; usual = 100000 }
row_of option.Workers = record { name = codes "workers"; least = 1; most = 64; usual = 2 }
row_of option.Tasks = record { name = codes "tasks"; least = 1; most = 16; usual = 2 }
row_of option.Drivers = record { name = codes "drivers"; least = 1; most = 16; usual = 2 }
row_of option.Replay = record { name = codes "replay"; least = 0; most = 2 ^ 64 - 1; usual = 0 }

-- the options that are given no number
abbrev pub plan_option : List ℕ
plan_option = codes "plan"

abbrev pub counts_option : List ℕ
counts_option = codes "counts"

-- the names of all options
abbrev pub option_names : List (List ℕ)
option_names =
    plan_option ∷ counts_option ∷ codes "demo" ∷ codes "split" ∷ codes "page" ∷ codes "quantum" ∷ codes "workers" ∷ codes "tasks"
    ∷ codes "drivers" ∷ codes "replay" ∷ []

-- an option's name, in full
abbrev pub is_known : List ℕ → Bool
is_known name = list_any (λ other. same_text other name) option_names

-- what is written for an option, where it first stands
abbrev pub written_in : List ℕ → List Item → Option (List ℕ)
written_in name [] = None
written_in name (valued option value ∷ items) =
    if same_text option name then Some value else written_in name items
written_in name (named word ∷ items) = written_in name items

-- an option stands again
abbrev pub is_again : List ℕ → Item → Bool
is_again name (valued other value) = same_text name other
is_again name (named word) = false

-- an item may stand before these: an option is known, and it is not given again
abbrev pub may_stand : Item → List Item → Bool
may_stand (valued name value) items = is_known name && not (list_any (is_again name) items)
may_stand (named word) items = true

abbrev pub are_options : List Item → Bool
are_options [] = true
are_options (item ∷ items) = may_stand item items && are_options items

-- what is written for each option, by its name
abbrev pub Given : Type 0
Given = List ℕ → Option (List ℕ)

-- no value begins with `-`
abbrev pub is_plain : Option (List ℕ) → Bool
is_plain given = option_map_or (λ value. not (begins_with_dash value)) given true

abbrev pub are_plain : Given → Bool
are_plain given = list_all (λ name. is_plain (given name)) option_names

-- a number within the bounds of an option's row
abbrev pub within : OptionRow → ℕ → Option ℕ
within row number = if nat_le row.least number && nat_le number row.most then Some number else None

-- the number that a text gives to an option: digits alone, within its bounds
abbrev pub number_for : OptionRow → List ℕ → Option ℕ
number_for row text = option_and_then (within row) (number_of text)

abbrev pub number_written : OptionRow → Option (List ℕ) → Option ℕ
number_written row None = Some row.usual
number_written row (Some text) = number_for row text

-- the number of an option on a command line; None where what is given is no such number
abbrev pub option_number : NumberOption → Given → Option ℕ
option_number option given = number_written (row_of option) (given (row_of option).name)

-- whether counts are asked for; None where what is written is not `yes`
abbrev pub counts_written : Option (List ℕ) → Option Bool
counts_written None = Some false
counts_written (Some text) = if same_text text (codes "yes") then Some true else None

abbrev pub counts_in : Given → Option Bool
counts_in given = counts_written (given counts_option)

-- a row that borrows its name
abbrev pub row : options.OptionRow.OptionRow → OptionRow
row told = record { name = told.name.now; least = told.least; most = told.most; usual = told.usual }
