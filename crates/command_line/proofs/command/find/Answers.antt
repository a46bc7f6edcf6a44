use Rattle.std.proofs.Common.{◌≡◌, ◌∙◌, ap, map, refl}
use Rattle.clap.specs.Words.{app_of}
use Rattle.clap.specs.Faults.{is_simple_and_free}
use Rattle.clap.specs.Simple.{is_simple}
use Rattle.command_line.specs.Found.{words_app}
use Rattle.command_line.proofs.ParseLemmas.{is_plain_command}
use Rattle.command_line.proofs.ReadLemmas.{read_is, refused_is}
use Rattle.command_line.proofs.command.find.Goals as goal

pub returns-in-Ok-try_get_matches_from : goal.returns-in-Ok-try_get_matches_from
returns-in-Ok-try_get_matches_from c =
    let app : app_of c.in-Ok.command ≡ words_app = c.in-Ok.ensures in
    let found = c.in-Ok-try_get_matches_from in
    read_is (app_of c.in-Ok.command) (map (λ word. word.now) c.args.words.now) found.found app c.words_are_texts.ensures
    (found.ensures.kinds (ap is_simple_and_free app ∙ is_plain_command)) (found.ensures.matches (ap is_simple app ∙ refl)).0

pub returns-in-Err : goal.returns-in-Err
returns-in-Err c =
    let app : app_of c.in-Ok.command ≡ words_app = c.in-Ok.ensures in
    refused_is (app_of c.in-Ok.command) (map (λ word. word.now) c.args.words.now) c.in-Err.error c.fault_of.result app c.words_are_texts.ensures
    (c.in-Err.ensures.kinds (ap is_simple_and_free app ∙ is_plain_command)) c.fault_of.ensures
