use Rattle.std.proofs.Common.{◌≡◌, Some, ◌∙◌, sym}
use Rattle.command_line.specs.Words.{asked}
use Rattle.query_runner.specs.Answers.{heard_on, seen_of}
use Rattle.query_runner.proofs.CompletenessLemmas.{demo_answered}
use Rattle.query_runner.proofs.top.run_source.Goals as goal

pub returns-in-Some-clause-answer : goal.returns-in-Some-clause-answer
returns-in-Some-clause-answer g c =
    let is : (asked c.args.job.now).demo ≡ Some c.in-Some.number = sym c.demo.ensures ∙ c.in-Some.is in
    demo_answered (asked c.args.job.now) (asked c.args.job.now).demo c.in-Some.number
    (seen_of g.F.Files g.O.Sink c.args.files.now c.args.files.now c.args.out.now c.run_demo.new.out)
    (heard_on g.E.Sink c.args.err.now c.run_demo.new.err)
    c.run_demo.result is c.run_demo.ensures.answer
