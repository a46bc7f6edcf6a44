use Rattle.std.proofs.Common.{◌≡◌, Some, map, ◌∙◌, refl, subst, sym, ap}
use Rattle.command_line.specs.Words.{Refuses, asked, job_of}
use Rattle.command_line.specs.declared.command.WordsFault.TheVariants as fault
use Rattle.query_runner.specs.Answers.{heard_on, seen_of}
use Rattle.query_runner.proofs.CompletenessLemmas.{complete}
use Rattle.query_runner.proofs.WordLemmas.{words_answered}
use Rattle.query_runner.proofs.top.run.Goals as goal

pub returns-in_default-clause-answer : goal.returns-in_default-clause-answer
returns-in_default-clause-answer g c =
    words_answered fault.Memory c.refuse.result (job_of c.args.words.now)
    (seen_of g.F.Files g.O.Sink c.args.files.now c.args.files.now c.args.out.now c.args.out.now)
    (heard_on g.E.Sink c.args.err.now c.refuse.new.err)
    c.refuse.ensures.status tt refl c.refuse.ensures.told

pub returns-clause-answer : goal.returns-clause-answer
returns-clause-answer g c =
    let words = ap (map (λ word. word.now)) c.as_slice.ensures.value ∙ c.in-Ok.ensures in
    words_answered c.in-Err.fault c.refuse-in-Err.result (job_of c.args.words.now)
    (seen_of g.F.Files g.O.Sink c.args.files.now c.args.files.now c.args.out.now c.args.out.now)
    (heard_on g.E.Sink c.args.err.now c.refuse-in-Err.new.err)
    c.refuse-in-Err.ensures.status (subst (λ w. Refuses (job_of w) c.in-Err.fault) words c.in-Err.ensures.job) refl c.refuse-in-Err.ensures.told

pub returns-in-Ok-read_words-clause-answer : goal.returns-in-Ok-read_words-clause-answer
returns-in-Ok-read_words-clause-answer g c =
    let words = ap (map (λ word. word.now)) c.as_slice.ensures.value ∙ c.in-Ok.ensures in
    let is : job_of c.args.words.now ≡ Some (asked c.in-Ok-read_words.job) = ap job_of (sym words) ∙ c.in-Ok-read_words.ensures.job in
    rw is c.run_source.ensures.answer

pub returns-in-Ok-read_words-clause-complete : goal.returns-in-Ok-read_words-clause-complete
returns-in-Ok-read_words-clause-complete g c =
    let words = ap (map (λ word. word.now)) c.as_slice.ensures.value ∙ c.in-Ok.ensures in
    let is : job_of c.args.words.now ≡ Some (asked c.in-Ok-read_words.job) = ap job_of (sym words) ∙ c.in-Ok-read_words.ensures.job in
    complete (job_of c.args.words.now)
    (seen_of g.F.Files g.O.Sink c.args.files.now c.run_source.new.files c.args.out.now c.run_source.new.out)
    (heard_on g.E.Sink c.args.err.now c.run_source.new.err)
    c.run_source.result (rw is c.run_source.ensures.answer)
