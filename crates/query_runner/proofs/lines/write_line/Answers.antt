use Rattle.std.proofs.Common.{[], codes, ◌++◌, ◌∷◌}
use Rattle.command_line.specs.Words.{asked}
use Rattle.query_runner.specs.Lines.{message}
use Rattle.query_runner.proofs.AppendLemmas.{after, both, last, on_err, onward, widen}
use Rattle.query_runner.proofs.lines.write_line.Goals as goal

pub returns-clause-ok : goal.returns-clause-ok
returns-clause-ok g c =
    let p1 = both (g.E.Sink.written c.args.err.now) (g.E.Sink.written c.write_text.new.err) (g.E.Sink.written c.write_message.new.err) (codes "trinorun: ") (message (asked c.args.job.now) c.args.tables.now c.args.status.now) c.in_ok-write_text.ensures.ok c.in_ok-write_message.ensures.ok in
    after (g.E.Sink.written c.args.err.now) (g.E.Sink.written c.write_message.new.err) (g.E.Sink.written c.write_text-2.new.err) (codes "trinorun: " ++ message (asked c.args.job.now) c.args.tables.now c.args.status.now) ((10 ∷ [])) c.write_text-2.result p1 c.write_text-2.ensures.ok

pub returns-in_err-write_text-clause-begins : goal.returns-in_err-write_text-clause-begins
returns-in_err-write_text-clause-begins g c =
    on_err c.from_residual.result (widen (g.E.Sink.written c.args.err.now) (g.E.Sink.written c.write_text.new.err) (codes "trinorun: " ++ message (asked c.args.job.now) c.args.tables.now c.args.status.now) ((10 ∷ [])) (widen (g.E.Sink.written c.args.err.now) (g.E.Sink.written c.write_text.new.err) (codes "trinorun: ") (message (asked c.args.job.now) c.args.tables.now c.args.status.now) c.in_err-write_text.ensures.begins))

pub returns-in_err-write_message-clause-begins : goal.returns-in_err-write_message-clause-begins
returns-in_err-write_message-clause-begins g c =
    on_err c.from_residual-in_err-write_message.result (widen (g.E.Sink.written c.args.err.now) (g.E.Sink.written c.write_message.new.err) (codes "trinorun: " ++ message (asked c.args.job.now) c.args.tables.now c.args.status.now) ((10 ∷ [])) (onward (g.E.Sink.written c.args.err.now) (g.E.Sink.written c.write_text.new.err) (g.E.Sink.written c.write_message.new.err) (codes "trinorun: ") (message (asked c.args.job.now) c.args.tables.now c.args.status.now) c.in_ok-write_text.ensures.ok c.in_err-write_message.ensures.begins))

pub returns-clause-begins : goal.returns-clause-begins
returns-clause-begins g c =
    let p1 = both (g.E.Sink.written c.args.err.now) (g.E.Sink.written c.write_text.new.err) (g.E.Sink.written c.write_message.new.err) (codes "trinorun: ") (message (asked c.args.job.now) c.args.tables.now c.args.status.now) c.in_ok-write_text.ensures.ok c.in_ok-write_message.ensures.ok in
    last (g.E.Sink.written c.args.err.now) (g.E.Sink.written c.write_message.new.err) (g.E.Sink.written c.write_text-2.new.err) (codes "trinorun: " ++ message (asked c.args.job.now) c.args.tables.now c.args.status.now) ((10 ∷ [])) c.write_text-2.result p1 c.write_text-2.ensures.begins
