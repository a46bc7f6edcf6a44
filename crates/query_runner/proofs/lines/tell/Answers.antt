use Rattle.command_line.specs.Words.{asked}
use Rattle.query_runner.specs.Answers.{heard_on}
use Rattle.query_runner.specs.Lines.{line, message}
use Rattle.query_runner.proofs.AppendLemmas.{begun, if_none_failed}
use Rattle.query_runner.proofs.ToldLemmas.{told}
use Rattle.query_runner.proofs.lines.tell.Goals as goal

pub returns : goal.returns
returns g c =
    let text = line (message (asked c.args.job.now) c.args.tables.now c.args.status.now) in
    told (heard_on g.E.Sink c.args.err.now c.write_line.new.err) (message (asked c.args.job.now) c.args.tables.now c.args.status.now) c.args.status.now c.in_default.not-Ok
    (if_none_failed c.write_line.result c.write_line.ensures.ok c.write_line.ensures.cause)
    (begun (g.E.Sink.written c.args.err.now) (g.E.Sink.written c.write_line.new.err) text c.write_line.result c.write_line.ensures.ok c.write_line.ensures.begins)
