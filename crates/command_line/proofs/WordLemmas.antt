-- Lists of arguments, one argument more.
use Rattle.std.proofs.Common.{◌≡◌, ◌∙◌, ℕ, ◌+◌, ◌<◌, List, [], ◌∷◌, ◌++◌, ap, sym, map, take, length, get_or, IsUtf8}
use Rattle.std.specs.Borrow.{Bor}
use Rattle.std.proofs.lemmas.List.{map-append, take_more}
use Rattle.clap.specs.Words.{Rule, with_rule}
use Rattle.clap.specs.Walk.{Text}
use Rattle.command_line.specs.Found.{AllTexts, app_with, option_rule, tables_rule}

pub taken_more : (words : List (Bor Text)) (i : ℕ) (d : Bor Text) → i < length words
    → map (λ word. word.now) (take (i + 1) words) ≡ map (λ word. word.now) (take i words) ++ (get_or words i d).now ∷ []
taken_more words i d lt = ap (map (λ word. word.now)) (take_more words i d lt) ∙ map-append (λ (word : Bor Text). word.now) (take i words) (get_or words i d ∷ [])

pub texts_more : (words : List Text) (word : Text) → AllTexts words → IsUtf8 word → AllTexts (words ++ word ∷ [])
texts_more [] word all one = (one, tt)
texts_more (w ∷ ws) word all one = (all.0, texts_more ws word all.1 one)

-- the command with one option more
pub app_more : (names : List Text) (name : Text) → with_rule (app_with names) (option_rule name) ≡ app_with (names ++ name ∷ [])
app_more names name = ap (λ (rules : List Rule). record (app_with []) { top = record (app_with []).top { rules = tables_rule ∷ rules } }) (sym (map-append option_rule names (name ∷ [])))
