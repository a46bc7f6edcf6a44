use Rattle.std.proofs.Common.{codes, ◌++◌}
use Rattle.std.specs.Fmt.{decimal}
use Rattle.query_runner.proofs.AppendLemmas.{after, both, last, on_err, onward, widen}
use Rattle.query_runner.proofs.lines.write_failure.Goals as goal

pub returns-clause-ok : goal.returns-clause-ok
returns-clause-ok g c =
    let p1 = both (g.E.Sink.written c.args.err.now) (g.E.Sink.written c.write_text.new.err) (g.E.Sink.written c.write_number.new.err) (codes "expression failed ") (decimal c.args.kind) c.in_ok-write_text.ensures.ok c.in_ok-write_number.ensures.ok in
    let p2 = both (g.E.Sink.written c.args.err.now) (g.E.Sink.written c.write_number.new.err) (g.E.Sink.written c.write_text-2.new.err) (codes "expression failed " ++ decimal c.args.kind) (codes " at node ") p1 c.in_ok-write_text-2.ensures.ok in
    after (g.E.Sink.written c.args.err.now) (g.E.Sink.written c.write_text-2.new.err) (g.E.Sink.written c.write_number-2.new.err) (codes "expression failed " ++ decimal c.args.kind ++ codes " at node ") (decimal c.args.node) c.write_number-2.result p2 c.write_number-2.ensures.ok

pub returns-in_err-write_text-clause-begins : goal.returns-in_err-write_text-clause-begins
returns-in_err-write_text-clause-begins g c =
    on_err c.from_residual.result (widen (g.E.Sink.written c.args.err.now) (g.E.Sink.written c.write_text.new.err) (codes "expression failed " ++ decimal c.args.kind ++ codes " at node ") (decimal c.args.node) (widen (g.E.Sink.written c.args.err.now) (g.E.Sink.written c.write_text.new.err) (codes "expression failed " ++ decimal c.args.kind) (codes " at node ") (widen (g.E.Sink.written c.args.err.now) (g.E.Sink.written c.write_text.new.err) (codes "expression failed ") (decimal c.args.kind) c.in_err-write_text.ensures.begins)))

pub returns-in_err-write_number-clause-begins : goal.returns-in_err-write_number-clause-begins
returns-in_err-write_number-clause-begins g c =
    on_err c.from_residual-in_err-write_number.result (widen (g.E.Sink.written c.args.err.now) (g.E.Sink.written c.write_number.new.err) (codes "expression failed " ++ decimal c.args.kind ++ codes " at node ") (decimal c.args.node) (widen (g.E.Sink.written c.args.err.now) (g.E.Sink.written c.write_number.new.err) (codes "expression failed " ++ decimal c.args.kind) (codes " at node ") (onward (g.E.Sink.written c.args.err.now) (g.E.Sink.written c.write_text.new.err) (g.E.Sink.written c.write_number.new.err) (codes "expression failed ") (decimal c.args.kind) c.in_ok-write_text.ensures.ok c.in_err-write_number.ensures.begins)))

pub returns-in_err-write_text-2-clause-begins : goal.returns-in_err-write_text-2-clause-begins
returns-in_err-write_text-2-clause-begins g c =
    let p1 = both (g.E.Sink.written c.args.err.now) (g.E.Sink.written c.write_text.new.err) (g.E.Sink.written c.write_number.new.err) (codes "expression failed ") (decimal c.args.kind) c.in_ok-write_text.ensures.ok c.in_ok-write_number.ensures.ok in
    on_err c.from_residual-in_err-write_text-2.result (widen (g.E.Sink.written c.args.err.now) (g.E.Sink.written c.write_text-2.new.err) (codes "expression failed " ++ decimal c.args.kind ++ codes " at node ") (decimal c.args.node) (onward (g.E.Sink.written c.args.err.now) (g.E.Sink.written c.write_number.new.err) (g.E.Sink.written c.write_text-2.new.err) (codes "expression failed " ++ decimal c.args.kind) (codes " at node ") p1 c.in_err-write_text-2.ensures.begins))

pub returns-clause-begins : goal.returns-clause-begins
returns-clause-begins g c =
    let p1 = both (g.E.Sink.written c.args.err.now) (g.E.Sink.written c.write_text.new.err) (g.E.Sink.written c.write_number.new.err) (codes "expression failed ") (decimal c.args.kind) c.in_ok-write_text.ensures.ok c.in_ok-write_number.ensures.ok in
    let p2 = both (g.E.Sink.written c.args.err.now) (g.E.Sink.written c.write_number.new.err) (g.E.Sink.written c.write_text-2.new.err) (codes "expression failed " ++ decimal c.args.kind) (codes " at node ") p1 c.in_ok-write_text-2.ensures.ok in
    last (g.E.Sink.written c.args.err.now) (g.E.Sink.written c.write_text-2.new.err) (g.E.Sink.written c.write_number-2.new.err) (codes "expression failed " ++ decimal c.args.kind ++ codes " at node ") (decimal c.args.node) c.write_number-2.result p2 c.write_number-2.ensures.begins
