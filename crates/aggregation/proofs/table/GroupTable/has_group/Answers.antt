use Rattle.aggregation.proofs.ResultLemmas.{some-told}
use Rattle.aggregation.proofs.table.GroupTable.has_group.Goals as goal

pub returns : goal.returns
returns c =
    let s = c.self.inside in
    some-told s.columns.items s.calls.items s.types.items s.index s.groups.items c.self.invariant c.args.self.now c.self.view_is c.len.result c.len.ensures
