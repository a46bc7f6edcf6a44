use Rattle.std.proofs.lemmas.Result.{err_from_is_err_and}
use Rattle.table_parts.proofs.CutLemmas.{back_plain}
use Rattle.table_parts.proofs.JoinLemmas.{back_refused, both_done, front_refused}
use Rattle.sql_values.specs.Columns.{kinds}
use Rattle.table_parts.proofs.parts.+parts.Goals as goal

pub read_both-returns-in_err-first : goal.read_both-returns-in_err-first
read_both-returns-in_err-first g t c =
    let p = err_from_is_err_and c.from_residual.result c.from_residual.ensures.1 in
    rw (p.1, p.2)
    (front_refused c.args.columns.now c.args.limit c.args.front.now c.args.back.now c.in_err-first.field-0.0 c.requires.cut (rw c.in_err-first.was at c.join-first.ensures.first))

pub read_both-returns-in-Ok : goal.read_both-returns-in-Ok
read_both-returns-in-Ok g t c =
    let made = c.rows_of_both.ensures in
    both_done c.args.columns.now c.args.limit c.args.front.now c.args.back.now c.in_ok-first.first c.in-Ok.second c.rows_of_both.result c.requires.cut
    (rw c.in_ok-first.was at c.join-first.ensures.first) (rw c.in-Ok.is at c.join-first.ensures.second) made.few made.rows made.fault

pub read_both-returns-in-Err : goal.read_both-returns-in-Err
read_both-returns-in-Err g t c =
    let columns = c.args.columns.now in
    rw (c.fault_behind.ensures, c.len.ensures)
    (back_refused columns c.args.limit c.args.front.now c.args.back.now (kinds columns) c.in_ok-first.first c.in-Err.fault c.requires.cut
    (rw c.in_ok-first.was at c.join-first.ensures.first) (rw c.in-Err.is at c.join-first.ensures.second))

pub read_parts-read_both-requires-clause-back : goal.read_parts-read_both-requires-clause-back
read_parts-read_both-requires-clause-back g t c κs within = record {
  limited = c.requires.limited;
  some = c.requires.some;
  counted = c.requires.counted;
  plain = back_plain c.in-Some.front.now c.in-Some.back.now c.args.text.now c.in-Some.ensures.whole c.requires.plain;
}
