use Rattle.std.proofs.Common.{codes, ◌++◌}
use Rattle.std.specs.Fmt.{decimal}
use Rattle.query_runner.proofs.AppendLemmas.{after, both, last, on_err, onward, widen}
use Rattle.query_runner.proofs.lines.write_table.Goals as goal

pub returns-clause-ok : goal.returns-clause-ok
returns-clause-ok g c =
    let p1 = both (g.E.Sink.written c.args.err.now) (g.E.Sink.written c.write_text.new.err) (g.E.Sink.written c.write_text-2.new.err) (codes "table ") (c.args.name.now) c.in_ok-write_text.ensures.ok c.in_ok-write_text-2.ensures.ok in
    let p2 = both (g.E.Sink.written c.args.err.now) (g.E.Sink.written c.write_text-2.new.err) (g.E.Sink.written c.write_text-3.new.err) (codes "table " ++ c.args.name.now) (codes " refused ") p1 c.in_ok-write_text-3.ensures.ok in
    let p3 = both (g.E.Sink.written c.args.err.now) (g.E.Sink.written c.write_text-3.new.err) (g.E.Sink.written c.write_number.new.err) (codes "table " ++ c.args.name.now ++ codes " refused ") (decimal c.args.why) p2 c.in_ok-write_number.ensures.ok in
    let p4 = both (g.E.Sink.written c.args.err.now) (g.E.Sink.written c.write_number.new.err) (g.E.Sink.written c.write_text-4.new.err) (codes "table " ++ c.args.name.now ++ codes " refused " ++ decimal c.args.why) (codes " at row ") p3 c.in_ok-write_text-4.ensures.ok in
    let p5 = both (g.E.Sink.written c.args.err.now) (g.E.Sink.written c.write_text-4.new.err) (g.E.Sink.written c.write_number-2.new.err) (codes "table " ++ c.args.name.now ++ codes " refused " ++ decimal c.args.why ++ codes " at row ") (decimal c.args.row) p4 c.in_ok-write_number-2.ensures.ok in
    let p6 = both (g.E.Sink.written c.args.err.now) (g.E.Sink.written c.write_number-2.new.err) (g.E.Sink.written c.write_text-5.new.err) (codes "table " ++ c.args.name.now ++ codes " refused " ++ decimal c.args.why ++ codes " at row " ++ decimal c.args.row) (codes " column ") p5 c.in_ok-write_text-5.ensures.ok in
    after (g.E.Sink.written c.args.err.now) (g.E.Sink.written c.write_text-5.new.err) (g.E.Sink.written c.write_number-3.new.err) (codes "table " ++ c.args.name.now ++ codes " refused " ++ decimal c.args.why ++ codes " at row " ++ decimal c.args.row ++ codes " column ") (decimal c.args.column) c.write_number-3.result p6 c.write_number-3.ensures.ok

pub returns-in_err-write_text-clause-begins : goal.returns-in_err-write_text-clause-begins
returns-in_err-write_text-clause-begins g c =
    on_err c.from_residual.result (widen (g.E.Sink.written c.args.err.now) (g.E.Sink.written c.write_text.new.err) (codes "table " ++ c.args.name.now ++ codes " refused " ++ decimal c.args.why ++ codes " at row " ++ decimal c.args.row ++ codes " column ") (decimal c.args.column) (widen (g.E.Sink.written c.args.err.now) (g.E.Sink.written c.write_text.new.err) (codes "table " ++ c.args.name.now ++ codes " refused " ++ decimal c.args.why ++ codes " at row " ++ decimal c.args.row) (codes " column ") (widen (g.E.Sink.written c.args.err.now) (g.E.Sink.written c.write_text.new.err) (codes "table " ++ c.args.name.now ++ codes " refused " ++ decimal c.args.why ++ codes " at row ") (decimal c.args.row) (widen (g.E.Sink.written c.args.err.now) (g.E.Sink.written c.write_text.new.err) (codes "table " ++ c.args.name.now ++ codes " refused " ++ decimal c.args.why) (codes " at row ") (widen (g.E.Sink.written c.args.err.now) (g.E.Sink.written c.write_text.new.err) (codes "table " ++ c.args.name.now ++ codes " refused ") (decimal c.args.why) (widen (g.E.Sink.written c.args.err.now) (g.E.Sink.written c.write_text.new.err) (codes "table " ++ c.args.name.now) (codes " refused ") (widen (g.E.Sink.written c.args.err.now) (g.E.Sink.written c.write_text.new.err) (codes "table ") (c.args.name.now) c.in_err-write_text.ensures.begins)))))))

pub returns-in_err-write_text-2-clause-begins : goal.returns-in_err-write_text-2-clause-begins
returns-in_err-write_text-2-clause-begins g c =
    on_err c.from_residual-in_err-write_text-2.result (widen (g.E.Sink.written c.args.err.now) (g.E.Sink.written c.write_text-2.new.err) (codes "table " ++ c.args.name.now ++ codes " refused " ++ decimal c.args.why ++ codes " at row " ++ decimal c.args.row ++ codes " column ") (decimal c.args.column) (widen (g.E.Sink.written c.args.err.now) (g.E.Sink.written c.write_text-2.new.err) (codes "table " ++ c.args.name.now ++ codes " refused " ++ decimal c.args.why ++ codes " at row " ++ decimal c.args.row) (codes " column ") (widen (g.E.Sink.written c.args.err.now) (g.E.Sink.written c.write_text-2.new.err) (codes "table " ++ c.args.name.now ++ codes " refused " ++ decimal c.args.why ++ codes " at row ") (decimal c.args.row) (widen (g.E.Sink.written c.args.err.now) (g.E.Sink.written c.write_text-2.new.err) (codes "table " ++ c.args.name.now ++ codes " refused " ++ decimal c.args.why) (codes " at row ") (widen (g.E.Sink.written c.args.err.now) (g.E.Sink.written c.write_text-2.new.err) (codes "table " ++ c.args.name.now ++ codes " refused ") (decimal c.args.why) (widen (g.E.Sink.written c.args.err.now) (g.E.Sink.written c.write_text-2.new.err) (codes "table " ++ c.args.name.now) (codes " refused ") (onward (g.E.Sink.written c.args.err.now) (g.E.Sink.written c.write_text.new.err) (g.E.Sink.written c.write_text-2.new.err) (codes "table ") (c.args.name.now) c.in_ok-write_text.ensures.ok c.in_err-write_text-2.ensures.begins)))))))

pub returns-in_err-write_text-3-clause-begins : goal.returns-in_err-write_text-3-clause-begins
returns-in_err-write_text-3-clause-begins g c =
    let p1 = both (g.E.Sink.written c.args.err.now) (g.E.Sink.written c.write_text.new.err) (g.E.Sink.written c.write_text-2.new.err) (codes "table ") (c.args.name.now) c.in_ok-write_text.ensures.ok c.in_ok-write_text-2.ensures.ok in
    on_err c.from_residual-in_err-write_text-3.result (widen (g.E.Sink.written c.args.err.now) (g.E.Sink.written c.write_text-3.new.err) (codes "table " ++ c.args.name.now ++ codes " refused " ++ decimal c.args.why ++ codes " at row " ++ decimal c.args.row ++ codes " column ") (decimal c.args.column) (widen (g.E.Sink.written c.args.err.now) (g.E.Sink.written c.write_text-3.new.err) (codes "table " ++ c.args.name.now ++ codes " refused " ++ decimal c.args.why ++ codes " at row " ++ decimal c.args.row) (codes " column ") (widen (g.E.Sink.written c.args.err.now) (g.E.Sink.written c.write_text-3.new.err) (codes "table " ++ c.args.name.now ++ codes " refused " ++ decimal c.args.why ++ codes " at row ") (decimal c.args.row) (widen (g.E.Sink.written c.args.err.now) (g.E.Sink.written c.write_text-3.new.err) (codes "table " ++ c.args.name.now ++ codes " refused " ++ decimal c.args.why) (codes " at row ") (widen (g.E.Sink.written c.args.err.now) (g.E.Sink.written c.write_text-3.new.err) (codes "table " ++ c.args.name.now ++ codes " refused ") (decimal c.args.why) (onward (g.E.Sink.written c.args.err.now) (g.E.Sink.written c.write_text-2.new.err) (g.E.Sink.written c.write_text-3.new.err) (codes "table " ++ c.args.name.now) (codes " refused ") p1 c.in_err-write_text-3.ensures.begins))))))

pub returns-in_err-write_number-clause-begins : goal.returns-in_err-write_number-clause-begins
returns-in_err-write_number-clause-begins g c =
    let p1 = both (g.E.Sink.written c.args.err.now) (g.E.Sink.written c.write_text.new.err) (g.E.Sink.written c.write_text-2.new.err) (codes "table ") (c.args.name.now) c.in_ok-write_text.ensures.ok c.in_ok-write_text-2.ensures.ok in
    let p2 = both (g.E.Sink.written c.args.err.now) (g.E.Sink.written c.write_text-2.new.err) (g.E.Sink.written c.write_text-3.new.err) (codes "table " ++ c.args.name.now) (codes " refused ") p1 c.in_ok-write_text-3.ensures.ok in
    on_err c.from_residual-in_err-write_number.result (widen (g.E.Sink.written c.args.err.now) (g.E.Sink.written c.write_number.new.err) (codes "table " ++ c.args.name.now ++ codes " refused " ++ decimal c.args.why ++ codes " at row " ++ decimal c.args.row ++ codes " column ") (decimal c.args.column) (widen (g.E.Sink.written c.args.err.now) (g.E.Sink.written c.write_number.new.err) (codes "table " ++ c.args.name.now ++ codes " refused " ++ decimal c.args.why ++ codes " at row " ++ decimal c.args.row) (codes " column ") (widen (g.E.Sink.written c.args.err.now) (g.E.Sink.written c.write_number.new.err) (codes "table " ++ c.args.name.now ++ codes " refused " ++ decimal c.args.why ++ codes " at row ") (decimal c.args.row) (widen (g.E.Sink.written c.args.err.now) (g.E.Sink.written c.write_number.new.err) (codes "table " ++ c.args.name.now ++ codes " refused " ++ decimal c.args.why) (codes " at row ") (onward (g.E.Sink.written c.args.err.now) (g.E.Sink.written c.write_text-3.new.err) (g.E.Sink.written c.write_number.new.err) (codes "table " ++ c.args.name.now ++ codes " refused ") (decimal c.args.why) p2 c.in_err-write_number.ensures.begins)))))

pub returns-in_err-write_text-4-clause-begins : goal.returns-in_err-write_text-4-clause-begins
returns-in_err-write_text-4-clause-begins g c =
    let p1 = both (g.E.Sink.written c.args.err.now) (g.E.Sink.written c.write_text.new.err) (g.E.Sink.written c.write_text-2.new.err) (codes "table ") (c.args.name.now) c.in_ok-write_text.ensures.ok c.in_ok-write_text-2.ensures.ok in
    let p2 = both (g.E.Sink.written c.args.err.now) (g.E.Sink.written c.write_text-2.new.err) (g.E.Sink.written c.write_text-3.new.err) (codes "table " ++ c.args.name.now) (codes " refused ") p1 c.in_ok-write_text-3.ensures.ok in
    let p3 = both (g.E.Sink.written c.args.err.now) (g.E.Sink.written c.write_text-3.new.err) (g.E.Sink.written c.write_number.new.err) (codes "table " ++ c.args.name.now ++ codes " refused ") (decimal c.args.why) p2 c.in_ok-write_number.ensures.ok in
    on_err c.from_residual-in_err-write_text-4.result (widen (g.E.Sink.written c.args.err.now) (g.E.Sink.written c.write_text-4.new.err) (codes "table " ++ c.args.name.now ++ codes " refused " ++ decimal c.args.why ++ codes " at row " ++ decimal c.args.row ++ codes " column ") (decimal c.args.column) (widen (g.E.Sink.written c.args.err.now) (g.E.Sink.written c.write_text-4.new.err) (codes "table " ++ c.args.name.now ++ codes " refused " ++ decimal c.args.why ++ codes " at row " ++ decimal c.args.row) (codes " column ") (widen (g.E.Sink.written c.args.err.now) (g.E.Sink.written c.write_text-4.new.err) (codes "table " ++ c.args.name.now ++ codes " refused " ++ decimal c.args.why ++ codes " at row ") (decimal c.args.row) (onward (g.E.Sink.written c.args.err.now) (g.E.Sink.written c.write_number.new.err) (g.E.Sink.written c.write_text-4.new.err) (codes "table " ++ c.args.name.now ++ codes " refused " ++ decimal c.args.why) (codes " at row ") p3 c.in_err-write_text-4.ensures.begins))))

pub returns-in_err-write_number-2-clause-begins : goal.returns-in_err-write_number-2-clause-begins
returns-in_err-write_number-2-clause-begins g c =
    let p1 = both (g.E.Sink.written c.args.err.now) (g.E.Sink.written c.write_text.new.err) (g.E.Sink.written c.write_text-2.new.err) (codes "table ") (c.args.name.now) c.in_ok-write_text.ensures.ok c.in_ok-write_text-2.ensures.ok in
    let p2 = both (g.E.Sink.written c.args.err.now) (g.E.Sink.written c.write_text-2.new.err) (g.E.Sink.written c.write_text-3.new.err) (codes "table " ++ c.args.name.now) (codes " refused ") p1 c.in_ok-write_text-3.ensures.ok in
    let p3 = both (g.E.Sink.written c.args.err.now) (g.E.Sink.written c.write_text-3.new.err) (g.E.Sink.written c.write_number.new.err) (codes "table " ++ c.args.name.now ++ codes " refused ") (decimal c.args.why) p2 c.in_ok-write_number.ensures.ok in
    let p4 = both (g.E.Sink.written c.args.err.now) (g.E.Sink.written c.write_number.new.err) (g.E.Sink.written c.write_text-4.new.err) (codes "table " ++ c.args.name.now ++ codes " refused " ++ decimal c.args.why) (codes " at row ") p3 c.in_ok-write_text-4.ensures.ok in
    on_err c.from_residual-in_err-write_number-2.result (widen (g.E.Sink.written c.args.err.now) (g.E.Sink.written c.write_number-2.new.err) (codes "table " ++ c.args.name.now ++ codes " refused " ++ decimal c.args.why ++ codes " at row " ++ decimal c.args.row ++ codes " column ") (decimal c.args.column) (widen (g.E.Sink.written c.args.err.now) (g.E.Sink.written c.write_number-2.new.err) (codes "table " ++ c.args.name.now ++ codes " refused " ++ decimal c.args.why ++ codes " at row " ++ decimal c.args.row) (codes " column ") (onward (g.E.Sink.written c.args.err.now) (g.E.Sink.written c.write_text-4.new.err) (g.E.Sink.written c.write_number-2.new.err) (codes "table " ++ c.args.name.now ++ codes " refused " ++ decimal c.args.why ++ codes " at row ") (decimal c.args.row) p4 c.in_err-write_number-2.ensures.begins)))

pub returns-in_err-write_text-5-clause-begins : goal.returns-in_err-write_text-5-clause-begins
returns-in_err-write_text-5-clause-begins g c =
    let p1 = both (g.E.Sink.written c.args.err.now) (g.E.Sink.written c.write_text.new.err) (g.E.Sink.written c.write_text-2.new.err) (codes "table ") (c.args.name.now) c.in_ok-write_text.ensures.ok c.in_ok-write_text-2.ensures.ok in
    let p2 = both (g.E.Sink.written c.args.err.now) (g.E.Sink.written c.write_text-2.new.err) (g.E.Sink.written c.write_text-3.new.err) (codes "table " ++ c.args.name.now) (codes " refused ") p1 c.in_ok-write_text-3.ensures.ok in
    let p3 = both (g.E.Sink.written c.args.err.now) (g.E.Sink.written c.write_text-3.new.err) (g.E.Sink.written c.write_number.new.err) (codes "table " ++ c.args.name.now ++ codes " refused ") (decimal c.args.why) p2 c.in_ok-write_number.ensures.ok in
    let p4 = both (g.E.Sink.written c.args.err.now) (g.E.Sink.written c.write_number.new.err) (g.E.Sink.written c.write_text-4.new.err) (codes "table " ++ c.args.name.now ++ codes " refused " ++ decimal c.args.why) (codes " at row ") p3 c.in_ok-write_text-4.ensures.ok in
    let p5 = both (g.E.Sink.written c.args.err.now) (g.E.Sink.written c.write_text-4.new.err) (g.E.Sink.written c.write_number-2.new.err) (codes "table " ++ c.args.name.now ++ codes " refused " ++ decimal c.args.why ++ codes " at row ") (decimal c.args.row) p4 c.in_ok-write_number-2.ensures.ok in
    on_err c.from_residual-in_err-write_text-5.result (widen (g.E.Sink.written c.args.err.now) (g.E.Sink.written c.write_text-5.new.err) (codes "table " ++ c.args.name.now ++ codes " refused " ++ decimal c.args.why ++ codes " at row " ++ decimal c.args.row ++ codes " column ") (decimal c.args.column) (onward (g.E.Sink.written c.args.err.now) (g.E.Sink.written c.write_number-2.new.err) (g.E.Sink.written c.write_text-5.new.err) (codes "table " ++ c.args.name.now ++ codes " refused " ++ decimal c.args.why ++ codes " at row " ++ decimal c.args.row) (codes " column ") p5 c.in_err-write_text-5.ensures.begins))

pub returns-clause-begins : goal.returns-clause-begins
returns-clause-begins g c =
    let p1 = both (g.E.Sink.written c.args.err.now) (g.E.Sink.written c.write_text.new.err) (g.E.Sink.written c.write_text-2.new.err) (codes "table ") (c.args.name.now) c.in_ok-write_text.ensures.ok c.in_ok-write_text-2.ensures.ok in
    let p2 = both (g.E.Sink.written c.args.err.now) (g.E.Sink.written c.write_text-2.new.err) (g.E.Sink.written c.write_text-3.new.err) (codes "table " ++ c.args.name.now) (codes " refused ") p1 c.in_ok-write_text-3.ensures.ok in
    let p3 = both (g.E.Sink.written c.args.err.now) (g.E.Sink.written c.write_text-3.new.err) (g.E.Sink.written c.write_number.new.err) (codes "table " ++ c.args.name.now ++ codes " refused ") (decimal c.args.why) p2 c.in_ok-write_number.ensures.ok in
    let p4 = both (g.E.Sink.written c.args.err.now) (g.E.Sink.written c.write_number.new.err) (g.E.Sink.written c.write_text-4.new.err) (codes "table " ++ c.args.name.now ++ codes " refused " ++ decimal c.args.why) (codes " at row ") p3 c.in_ok-write_text-4.ensures.ok in
    let p5 = both (g.E.Sink.written c.args.err.now) (g.E.Sink.written c.write_text-4.new.err) (g.E.Sink.written c.write_number-2.new.err) (codes "table " ++ c.args.name.now ++ codes " refused " ++ decimal c.args.why ++ codes " at row ") (decimal c.args.row) p4 c.in_ok-write_number-2.ensures.ok in
    let p6 = both (g.E.Sink.written c.args.err.now) (g.E.Sink.written c.write_number-2.new.err) (g.E.Sink.written c.write_text-5.new.err) (codes "table " ++ c.args.name.now ++ codes " refused " ++ decimal c.args.why ++ codes " at row " ++ decimal c.args.row) (codes " column ") p5 c.in_ok-write_text-5.ensures.ok in
    last (g.E.Sink.written c.args.err.now) (g.E.Sink.written c.write_text-5.new.err) (g.E.Sink.written c.write_number-3.new.err) (codes "table " ++ c.args.name.now ++ codes " refused " ++ decimal c.args.why ++ codes " at row " ++ decimal c.args.row ++ codes " column ") (decimal c.args.column) c.write_number-3.result p6 c.write_number-3.ensures.begins
