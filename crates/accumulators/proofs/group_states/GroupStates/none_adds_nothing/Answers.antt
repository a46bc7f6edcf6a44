use Rattle.std.proofs.Common.{◌<◌, length, get_or, arith}
use Rattle.accumulators.specs.GroupLists.{group_at}
use Rattle.accumulators.specs.KeptColumns.{all_kept_at}
use Rattle.accumulators.proofs.GroupListLemmas.{length-view, view-at}
use Rattle.accumulators.proofs.NoneLemmas.{none-added}
use Rattle.accumulators.proofs.group_states.GroupStates.none_adds_nothing.Goals as goal

pub returns : goal.returns
returns c =
    let s = c.self.inside in
    let rows = s.rows.items in
    let cols = s.columns.items in
    let lt : c.args.place < length rows = omega (arith, c.requires, length-view rows cols c.args.self.now c.self.view_is) in
    none-added (get_or rows c.args.place 0) (all_kept_at c.args.place cols) (group_at c.args.self.now c.args.place)
    (view-at rows cols c.args.place c.args.self.now c.self.view_is lt) (c.self.invariant.each c.args.place lt)
