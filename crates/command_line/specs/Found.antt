-- What is found in the arguments: the command as it is given to `clap`, and what its matches give.
use Rattle.std.specs.Prelude.{ℕ, List, [], ◌∷◌, ◌++◌, map, true, Option, Some, None, option_map, unwrap_or, codes, IsUtf8}
use Rattle.clap.specs.Words.{App, Rule, app_of, first_value, found_of, matched_of, new_app, new_rule, raw_values}
use Rattle.clap.specs.declared.builder.action.ArgAction.TheVariants.{Append}
use Rattle.clap.specs.declared.parser.matches.ArgMatches.{ArgMatches}
use Rattle.command_line.specs.Options.{Given, option_names}

-- under which the arguments that belong to no option are found
abbrev pub tables_id : List ℕ
tables_id = codes "NAME=FILE"

-- an option is read by its name in full, and has one value
abbrev pub option_rule : List ℕ → Rule
option_rule name = record (new_rule name) { long = Some name }

-- any number of arguments that belong to no option
abbrev pub tables_rule : Rule
tables_rule = record (new_rule tables_id) { action = Some Append }

-- a command with the arguments alone, no help and these options
abbrev pub app_with : List (List ℕ) → App
app_with names = record (new_app (codes "trinorun")) {
  top = record (new_app (codes "trinorun")).top {
    no_binary_name = true;
    disable_help_flag = true;
    rules = tables_rule ∷ map option_rule names;
  };
}

abbrev pub words_app : App
words_app = app_with option_names

-- what is found for each option
abbrev pub given_in : ArgMatches → Given
given_in found = λ name. first_value (found_of found) name

-- the arguments found that belong to no option
abbrev pub tables_in : ArgMatches → List (List ℕ)
tables_in found = unwrap_or (option_map raw_values (matched_of (found_of found) tables_id)) []

-- each argument is a text
abbrev pub AllTexts : List (List ℕ) → Type 0
AllTexts [] = Unit {0}
AllTexts (word ∷ words) = IsUtf8 word × AllTexts words
