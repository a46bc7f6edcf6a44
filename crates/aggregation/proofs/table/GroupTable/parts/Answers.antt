use Rattle.std.proofs.Common.{◌<◌, ◌≤◌, length, arith}
use Rattle.aggregation.proofs.ResultLemmas.{all-parts, part-more}
use Rattle.aggregation.proofs.table.GroupTable.parts.Goals as goal

pub loop-place-preserved : goal.loop-place-preserved
loop-place-preserved c =
    let s = c.self.inside in
    let within : c.loop-place.place < length s.groups.items = omega (arith, c.loop-place-test.true, c.len-place-end.ensures, s.groups.ok.0) in
    part-more s.columns.items s.calls.items s.types.items s.index s.groups.items c.self.invariant c.args.self.now c.self.view_is c.args.kinds.now c.loop-place.place
    c.loop-place.rows c.put_part.new.rows within c.loop-place.invariant c.in_ok-put_part.ensures

pub returns : goal.returns
returns c =
    let s = c.self.inside in
    let past : length s.groups.items ≤ c.loop-place.place = omega (arith, c.loop-place-test.false, c.len-place-end.ensures, s.groups.ok.0) in
    all-parts s.columns.items s.calls.items s.types.items s.index s.groups.items c.self.invariant c.args.self.now c.self.view_is c.args.kinds.now c.loop-place.place c.loop-place.rows past c.loop-place.invariant
