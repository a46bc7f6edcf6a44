-- What is found in arguments asks for what they ask for.
use Rattle.std.proofs.Common.{◌≡◌, ◌∙◌, inl, inr, Bool, cond, true, false, refl, sym, ap, subst, List, [], Option, Some, None, option_and_then, unwrap_or}
use Rattle.clap.specs.Words.{App, Row, first_of, found_of, kind_of, matches_of, rows_of}
use Rattle.clap.specs.Kinds.{HasKind, IsAmong}
use Rattle.clap.specs.Faults.{fault_of}
use Rattle.clap.specs.Walk.{Text}
use Rattle.clap.specs.declared.parser.matches.ArgMatches.{ArgMatches}
use Rattle.clap.specs.declared.error.Error.{Error}
use Rattle.clap.specs.declared.error.kind.ErrorKind.TheVariants.{OutOfMemory}
use Rattle.clap.proofs.WalkLemmas.{first_value-rows, raw_values-rows}
use Rattle.command_line.specs.Items.{Item, items_of, named_in}
use Rattle.command_line.specs.Options.{Given, is_known, option_names, written_in}
use Rattle.command_line.specs.Found.{AllTexts, given_in, tables_id, tables_in, words_app}
use Rattle.command_line.specs.Words.{Refuses, job_from, job_of, job_of_items}
use Rattle.command_line.specs.declared.command.WordsFault.{WordsFault}
use Rattle.command_line.specs.declared.command.WordsFault.TheVariants as fault
use Rattle.command_line.proofs.FoundLemmas.{told}
use Rattle.command_line.proofs.ParseLemmas.{fails_is, found_is}
use Rattle.command_line.proofs.JobLemmas.{IsWritten, Written, no_table, tables_of, written}

-- a job asks for the known options alone
given_known : (a b : Given) (n : Text) → (is_known n ≡ true → a n ≡ b n) → cond (is_known n) (a n) None ≡ cond (is_known n) (b n) None
given_known a b n same = by (is_known n) same
  where
    by : (k : Bool) → (k ≡ true → a n ≡ b n) → cond k (a n) None ≡ cond k (b n) None
    by true h = h refl
    by false h = refl

job_same : (a b : Given) (words others : List Text) → ((n : Text) → is_known n ≡ true → a n ≡ b n) → words ≡ others → job_from a words ≡ job_from b others
job_same a b words others same e = λ i. job_from (λ n. given_known a b n (same n) i) (e i)

job_written : (items : List Item) (rows : List Row) → IsWritten items rows → job_of_items items ≡ job_from (λ n. first_of n rows) (tables_of rows)
job_written items rows is =
    ap (λ b. cond b (job_from (λ n. written_in n items) (named_in items)) None) is.stand
    ∙ job_same (λ n. written_in n items) (λ n. first_of n rows) (named_in items) (tables_of rows) (λ n known. sym (is.given n (no_table n known))) (sym is.tables)

job_put : (rows : List Row) (items : Option (List Item)) → Some rows ≡ told option_names (Some []) items
    → option_and_then job_of_items items ≡ job_from (λ n. first_of n rows) (tables_of rows)
job_put rows None e = cc
job_put rows (Some items) e = job_written items rows (subst (Written items) (sym e) (written items))

none_put : (items : Option (List Item)) → None ≡ told option_names (Some []) items → option_and_then job_of_items items ≡ None
none_put None e = refl
none_put (Some items) e = ap (λ b. cond b (job_from (λ n. written_in n items) (named_in items)) None) (subst (Written items) (sym e) (written items))

job_found : (found : ArgMatches) → job_from (λ n. first_of n (rows_of (found_of found))) (tables_of (rows_of (found_of found))) ≡ job_from (given_in found) (tables_in found)
job_found found = job_same (λ n. first_of n (rows_of (found_of found))) (given_in found) (tables_of (rows_of (found_of found))) (tables_in found)
    (λ n known. sym (first_value-rows (found_of found) n)) (ap (λ o. unwrap_or o []) (sym (raw_values-rows (found_of found) tables_id)))

pub read_is : (app : App) (words : List Text) (found : ArgMatches) → app ≡ words_app → AllTexts words → fault_of app words ≡ [] → rows_of (found_of found) ≡ matches_of app words
    → job_of words ≡ job_from (given_in found) (tables_in found)
read_is app words found is utf8 none rows =
    let last = matches_of words_app words in
    let same : rows_of (found_of found) ≡ last = rows ∙ ap (λ a. matches_of a words) is in
    job_put last (items_of words) (found_is words utf8 (ap (λ a. fault_of a words) (sym is) ∙ none))
    ∙ ap (λ (r : List Row). job_from (λ n. first_of n r) (tables_of r)) (sym same)
    ∙ job_found found

pub refused_is : (app : App) (words : List Text) (e : Error) (answer : WordsFault) → app ≡ words_app → AllTexts words → HasKind (fault_of app words) e
    → (answer ≡ fault.Bad → kind_of e ≡ OutOfMemory → ⊥) → Refuses (job_of words) answer
refused_is app words e fault.Memory is utf8 kinds bad = tt
refused_is app words e fault.Bad is utf8 (inl memory) bad = absurd (bad refl memory)
refused_is app words e fault.Bad is utf8 (inr among) bad =
    none_put (items_of words) (fails_is words (kind_of e) utf8 (subst (λ a. IsAmong (kind_of e) (fault_of a words)) is among))
