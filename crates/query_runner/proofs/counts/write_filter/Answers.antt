use Rattle.std.proofs.Common.{codes}
use Rattle.std.specs.Fmt.{decimal}
use Rattle.query_runner.proofs.AppendLemmas.{after, last, on_err, widen}
use Rattle.query_runner.proofs.counts.write_filter.Goals as goal

pub returns-clause-ok : goal.returns-clause-ok
returns-clause-ok g c =
    after (g.E.Sink.written c.args.err.now) (g.E.Sink.written c.write_text.new.err) (g.E.Sink.written c.write_number.new.err) (codes "filter ") (decimal c.args.filter)
    c.write_number.result c.in_ok-write_text.ensures.ok c.write_number.ensures.ok

pub returns-in_err-write_text-clause-begins : goal.returns-in_err-write_text-clause-begins
returns-in_err-write_text-clause-begins g c =
    on_err c.from_residual.result (widen (g.E.Sink.written c.args.err.now) (g.E.Sink.written c.write_text.new.err) (codes "filter ") (decimal c.args.filter) c.in_err-write_text.ensures.begins)

pub returns-clause-begins : goal.returns-clause-begins
returns-clause-begins g c =
    last (g.E.Sink.written c.args.err.now) (g.E.Sink.written c.write_text.new.err) (g.E.Sink.written c.write_number.new.err) (codes "filter ") (decimal c.args.filter)
    c.write_number.result c.in_ok-write_text.ensures.ok c.write_number.ensures.begins
