-- What a parse of arguments gives, and when it fails.
use Rattle.std.proofs.Common.{◌≡◌, ◌∙◌, ◌&&◌, ◌||◌, Bool, cond, true, false, refl, sym, ap, ap₂, List, [], ◌∷◌, map, Some, None}
use Rattle.std.specs.List.{fold}
use Rattle.clap.specs.Words.{Row, matches_of}
use Rattle.clap.specs.Kinds.{IsAmong, Kinds, or_else}
use Rattle.clap.specs.Faults.{check_fault, defaults_fault, fault_of, is_simple_and_free, settle_fault, walk_fault}
use Rattle.clap.specs.Simple.{built}
use Rattle.clap.specs.Walk.{Held, Text, finished, has_row, nothing_held, settled, walk_from, walked, with_default}
use Rattle.clap.specs.declared.error.kind.ErrorKind.{ErrorKind}
use Rattle.clap.proofs.FaultLemmas.{leaf_fault}
use Rattle.command_line.specs.Items.{items_of}
use Rattle.command_line.specs.Options.{option_names}
use Rattle.command_line.specs.Found.{AllTexts, words_app}
use Rattle.command_line.proofs.ClassLemmas.{option_built, rules, shape, tables_built}
use Rattle.command_line.proofs.FoundLemmas.{none, outcome_is, told}

by_bool : {X : Type 0} (f : Bool → X) (x : X) (b : Bool) → f true ≡ x → f false ≡ x → f b ≡ x
by_bool f x true t e = t
by_bool f x false t e = e

-- no option has a default
no_default : (rows : List Row) (names : List Text) → defaults_fault rows (map option_built names) ≡ []
unfolding defaults_fault
no_default rows [] = refl
no_default rows (n ∷ names) =
    ap₂ or_else (by_bool (λ b. cond (b || true) [] []) [] (has_row n rows) refl refl)
    (ap (λ r. defaults_fault r (map option_built names)) (by_bool (λ b. cond b rows rows) rows (has_row n rows) refl refl) ∙ no_default rows names)

no_defaults : (rows : List Row) (names : List Text) → defaults_fault rows (rules names) ≡ []
unfolding defaults_fault
no_defaults rows names =
    ap₂ or_else (by_bool (λ b. cond (b || true) [] []) [] (has_row tables_built.id rows) refl refl)
    (ap (λ r. defaults_fault r (map option_built names)) (by_bool (λ b. cond b rows rows) rows (has_row tables_built.id rows) refl refl) ∙ no_default rows names)

kept_behind : (rows : List Row) (names : List Text) → fold with_default rows (map option_built names) ≡ rows
kept_behind rows [] = refl
kept_behind rows (n ∷ names) =
    ap (λ r. fold with_default r (map option_built names)) (by_bool (λ b. cond b rows rows) rows (has_row n rows) refl refl) ∙ kept_behind rows names

kept : (rows : List Row) (names : List Text) → fold with_default rows (rules names) ≡ rows
kept rows names =
    ap (λ r. fold with_default r (map option_built names)) (by_bool (λ b. cond b rows rows) rows (has_row tables_built.id rows) refl refl) ∙ kept_behind rows names

built_is : (built words_app).top ≡ shape option_names
built_is = refl

pub is_plain_command : is_simple_and_free words_app ≡ true
is_plain_command = refl

level_none : (walking settling defaults checks : Kinds) → defaults ≡ [] → checks ≡ []
    → none (or_else walking (or_else [] (or_else settling (or_else defaults checks)))) ≡ (none walking && none settling)
level_none [] [] defaults checks d c = ap₂ (λ x y. none (or_else x y)) d c
level_none [] (k ∷ ks) defaults checks d c = refl
level_none (k ∷ ks) settling defaults checks d c = refl

pub ended : List Text → Held
ended words = (fold (walked (rules option_names) []) (walk_from nothing_held) words).held

-- what a parse of arguments finds, or None where it fails, is what their items give
parse_is : (words : List Text) → AllTexts words
    → cond (none (fault_of words_app words)) (Some (matches_of words_app words)) None ≡ told option_names (Some []) (items_of words)
unfolding ended
parse_is words utf8 =
    let end = ended words in
    let last = (settled (rules option_names) end).rows in
    ap₂ (λ b r. cond b (Some r) None)
    (ap none (leaf_fault (built words_app) nothing_held words refl)
    ∙ level_none (walk_fault (shape option_names) [] (walk_from nothing_held) words) (settle_fault (rules option_names) false end)
    (defaults_fault last (rules option_names)) (check_fault (shape option_names) (finished (rules option_names) end) false) (no_defaults last option_names) refl)
    (kept last option_names)
    ∙ outcome_is option_names refl words utf8

pub found_is : (words : List Text) → AllTexts words → fault_of words_app words ≡ [] → Some (matches_of words_app words) ≡ told option_names (Some []) (items_of words)
found_is words utf8 e = ap (λ k. cond (none k) (Some (matches_of words_app words)) None) (sym e) ∙ parse_is words utf8

among_fails : (k : ErrorKind) (kinds : Kinds) → IsAmong k kinds → none kinds ≡ false
among_fails k [] h = absurd h
among_fails k (x ∷ xs) h = refl

pub fails_is : (words : List Text) (k : ErrorKind) → AllTexts words → IsAmong k (fault_of words_app words) → None ≡ told option_names (Some []) (items_of words)
fails_is words k utf8 h = ap (λ b. cond b (Some (matches_of words_app words)) None) (sym (among_fails k (fault_of words_app words) h)) ∙ parse_is words utf8
