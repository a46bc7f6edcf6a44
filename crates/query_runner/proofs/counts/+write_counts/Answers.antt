use Rattle.std.proofs.Common.{◌≡◌, ◌∷◌, rules}
use Rattle.query_runner.specs.Lines.{count_line, count_lines}
use Rattle.query_runner.proofs.AppendLemmas.{after, last, on_err, widen}
use Rattle.query_runner.proofs.counts.+write_counts.Goals as goal

pub returns-clause-ok : goal.returns-clause-ok
returns-clause-ok g n c =
    let is : c.args.passed.now ≡ c.in-Some.first.now ∷ c.in-Some.rest.now = search rules in
    rw is (after (g.E.Sink.written c.args.err.now) (g.E.Sink.written c.write_count.new.err) (g.E.Sink.written c.write_counts.new.err) (count_line c.in-Some.first.now) (count_lines c.in-Some.rest.now)
    c.write_counts.result c.in_ok-write_count.ensures.ok c.write_counts.ensures.ok)

pub returns-in_err-write_count-clause-begins : goal.returns-in_err-write_count-clause-begins
returns-in_err-write_count-clause-begins g n c =
    let is : c.args.passed.now ≡ c.in-Some.first.now ∷ c.in-Some.rest.now = search rules in
    rw is (on_err c.from_residual.result (widen (g.E.Sink.written c.args.err.now) (g.E.Sink.written c.write_count.new.err) (count_line c.in-Some.first.now) (count_lines c.in-Some.rest.now) c.in_err-write_count.ensures.begins))

pub returns-clause-begins : goal.returns-clause-begins
returns-clause-begins g n c =
    let is : c.args.passed.now ≡ c.in-Some.first.now ∷ c.in-Some.rest.now = search rules in
    rw is (last (g.E.Sink.written c.args.err.now) (g.E.Sink.written c.write_count.new.err) (g.E.Sink.written c.write_counts.new.err) (count_line c.in-Some.first.now) (count_lines c.in-Some.rest.now)
    c.write_counts.result c.in_ok-write_count.ensures.ok c.write_counts.ensures.begins)
