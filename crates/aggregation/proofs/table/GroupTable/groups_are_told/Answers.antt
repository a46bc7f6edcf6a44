use Rattle.aggregation.proofs.ResultLemmas.{told-of}
use Rattle.aggregation.proofs.table.GroupTable.groups_are_told.Goals as goal

pub returns : goal.returns
returns c =
    let s = c.self.inside in
    told-of s.columns.items s.calls.items s.types.items s.index s.groups.items c.self.invariant c.args.self.now c.self.view_is
