use Rattle.query_runner.specs.Lines.{filter_words, passed_words}
use Rattle.query_runner.proofs.AppendLemmas.{after, last, on_err, widen}
use Rattle.query_runner.proofs.counts.write_count.Goals as goal

pub returns-clause-ok : goal.returns-clause-ok
returns-clause-ok g c =
    let count = c.args.count.now in
    after (g.E.Sink.written c.args.err.now) (g.E.Sink.written c.write_filter.new.err) (g.E.Sink.written c.write_passed.new.err) (filter_words count.filter) (passed_words count.rows)
    c.write_passed.result c.in_ok-write_filter.ensures.ok c.write_passed.ensures.ok

pub returns-in_err-write_filter-clause-begins : goal.returns-in_err-write_filter-clause-begins
returns-in_err-write_filter-clause-begins g c =
    let count = c.args.count.now in
    on_err c.from_residual.result (widen (g.E.Sink.written c.args.err.now) (g.E.Sink.written c.write_filter.new.err) (filter_words count.filter) (passed_words count.rows) c.in_err-write_filter.ensures.begins)

pub returns-clause-begins : goal.returns-clause-begins
returns-clause-begins g c =
    let count = c.args.count.now in
    last (g.E.Sink.written c.args.err.now) (g.E.Sink.written c.write_filter.new.err) (g.E.Sink.written c.write_passed.new.err) (filter_words count.filter) (passed_words count.rows)
    c.write_passed.result c.in_ok-write_filter.ensures.ok c.write_passed.ensures.begins
