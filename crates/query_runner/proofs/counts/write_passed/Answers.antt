use Rattle.std.proofs.Common.{[], codes, ◌++◌, ◌∷◌}
use Rattle.std.specs.Fmt.{decimal}
use Rattle.query_runner.proofs.AppendLemmas.{after, both, last, on_err, onward, widen}
use Rattle.query_runner.proofs.counts.write_passed.Goals as goal

pub returns-clause-ok : goal.returns-clause-ok
returns-clause-ok g c =
    let p1 = both (g.E.Sink.written c.args.err.now) (g.E.Sink.written c.write_text.new.err) (g.E.Sink.written c.write_rows.new.err) (codes " passed ") (decimal c.args.rows) c.in_ok-write_text.ensures.ok c.in_ok-write_rows.ensures.ok in
    after (g.E.Sink.written c.args.err.now) (g.E.Sink.written c.write_rows.new.err) (g.E.Sink.written c.write_text-2.new.err) (codes " passed " ++ decimal c.args.rows) (10 ∷ []) c.write_text-2.result p1 c.write_text-2.ensures.ok

pub returns-in_err-write_text-clause-begins : goal.returns-in_err-write_text-clause-begins
returns-in_err-write_text-clause-begins g c =
    on_err c.from_residual.result (widen (g.E.Sink.written c.args.err.now) (g.E.Sink.written c.write_text.new.err) (codes " passed " ++ decimal c.args.rows) (10 ∷ [])
    (widen (g.E.Sink.written c.args.err.now) (g.E.Sink.written c.write_text.new.err) (codes " passed ") (decimal c.args.rows) c.in_err-write_text.ensures.begins))

pub returns-in_err-write_rows-clause-begins : goal.returns-in_err-write_rows-clause-begins
returns-in_err-write_rows-clause-begins g c =
    on_err c.from_residual-in_err-write_rows.result (widen (g.E.Sink.written c.args.err.now) (g.E.Sink.written c.write_rows.new.err) (codes " passed " ++ decimal c.args.rows) (10 ∷ [])
    (onward (g.E.Sink.written c.args.err.now) (g.E.Sink.written c.write_text.new.err) (g.E.Sink.written c.write_rows.new.err) (codes " passed ") (decimal c.args.rows) c.in_ok-write_text.ensures.ok c.in_err-write_rows.ensures.begins))

pub returns-clause-begins : goal.returns-clause-begins
returns-clause-begins g c =
    let p1 = both (g.E.Sink.written c.args.err.now) (g.E.Sink.written c.write_text.new.err) (g.E.Sink.written c.write_rows.new.err) (codes " passed ") (decimal c.args.rows) c.in_ok-write_text.ensures.ok c.in_ok-write_rows.ensures.ok in
    last (g.E.Sink.written c.args.err.now) (g.E.Sink.written c.write_rows.new.err) (g.E.Sink.written c.write_text-2.new.err) (codes " passed " ++ decimal c.args.rows) (10 ∷ []) c.write_text-2.result p1 c.write_text-2.ensures.begins
