use Rattle.std.proofs.Common.{codes}
use Rattle.query_runner.proofs.AppendLemmas.{after, last, on_err, widen}
use Rattle.query_runner.proofs.lines.write_unread.Goals as goal

pub returns-clause-ok : goal.returns-clause-ok
returns-clause-ok g c =
    after (g.E.Sink.written c.args.err.now) (g.E.Sink.written c.write_text.new.err) (g.E.Sink.written c.write_text-2.new.err) (codes "cannot read ") (c.args.file.now) c.write_text-2.result c.in_ok-write_text.ensures.ok c.write_text-2.ensures.ok

pub returns-in_err-write_text-clause-begins : goal.returns-in_err-write_text-clause-begins
returns-in_err-write_text-clause-begins g c =
    on_err c.from_residual.result (widen (g.E.Sink.written c.args.err.now) (g.E.Sink.written c.write_text.new.err) (codes "cannot read ") (c.args.file.now) c.in_err-write_text.ensures.begins)

pub returns-clause-begins : goal.returns-clause-begins
returns-clause-begins g c =
    last (g.E.Sink.written c.args.err.now) (g.E.Sink.written c.write_text.new.err) (g.E.Sink.written c.write_text-2.new.err) (codes "cannot read ") (c.args.file.now) c.write_text-2.result c.in_ok-write_text.ensures.ok c.write_text-2.ensures.begins
