use Rattle.std.proofs.Common.{◌<◌, [], ap, get_or, length, sym, subst}
use Rattle.aggregation.specs.Tables.{TableState}
use Rattle.aggregation.proofs.ResultLemmas.{fails-there, put-there}
use Rattle.aggregation.proofs.table.GroupTable.put_result.Goals as goal

pub returns-in_ok-put_group-in-Ok : goal.returns-in_ok-put_group-in-Ok
returns-in_ok-put_group-in-Ok c =
    let s = c.self.inside in
    let within = subst (λ (t : TableState). c.args.place < length t.keys) (sym c.self.view_is) c.requires.within in
    put-there s.columns.items s.calls.items s.types.items s.index s.groups.items c.self.invariant c.args.self.now c.self.view_is c.args.place c.index.result.now
    (get_or c.args.self.now.keys c.args.place []) c.in-Ok.results c.args.rows.now c.put_group.new.rows within c.index.ensures c.in-Ok.ensures
    (ap (λ (t : TableState). get_or t.keys c.args.place []) (sym c.self.view_is)) c.in_ok-put_group-in-Ok.ensures

pub returns-in-Err : goal.returns-in-Err
returns-in-Err c =
    let s = c.self.inside in
    let within = subst (λ (t : TableState). c.args.place < length t.keys) (sym c.self.view_is) c.requires.within in
    fails-there s.columns.items s.calls.items s.types.items s.index s.groups.items c.self.invariant c.args.self.now c.self.view_is c.args.place c.index.result.now
    c.in-Err.fault within c.index.ensures c.in-Err.ensures
