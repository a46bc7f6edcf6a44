use Rattle.std.proofs.Common.{◌<◌, ◌≤◌, length, arith}
use Rattle.aggregation.proofs.ResultLemmas.{all-put, one-fails, put-more}
use Rattle.aggregation.proofs.table.GroupTable.results.Goals as goal

pub returns-in-Err : goal.returns-in-Err
returns-in-Err c =
    let s = c.self.inside in
    let within : c.loop-place.place < length s.groups.items = omega (arith, c.loop-place-test.true, c.len-place-end.ensures, s.groups.ok.0) in
    one-fails s.columns.items s.calls.items s.types.items s.index s.groups.items c.self.invariant c.args.self.now c.self.view_is c.loop-place.place c.in-Err.fault within c.in-Err.ensures

pub loop-place-preserved : goal.loop-place-preserved
loop-place-preserved c =
    let s = c.self.inside in
    let within : c.loop-place.place < length s.groups.items = omega (arith, c.loop-place-test.true, c.len-place-end.ensures, s.groups.ok.0) in
    put-more s.columns.items s.calls.items s.types.items s.index s.groups.items c.self.invariant c.args.self.now c.self.view_is c.args.kinds.now c.loop-place.place
    c.loop-place.rows c.put_result.new.rows within c.loop-place.invariant c.in-Ok.ensures

pub returns : goal.returns
returns c =
    let s = c.self.inside in
    let past : length s.groups.items ≤ c.loop-place.place = omega (arith, c.loop-place-test.false, c.len-place-end.ensures, s.groups.ok.0) in
    all-put s.columns.items s.calls.items s.types.items s.index s.groups.items c.self.invariant c.args.self.now c.self.view_is c.args.kinds.now c.loop-place.place c.loop-place.rows past c.loop-place.invariant
