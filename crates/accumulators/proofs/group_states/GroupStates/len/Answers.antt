use Rattle.std.proofs.Common.{◌∙◌}
use Rattle.accumulators.proofs.GroupListLemmas.{length-view}
use Rattle.accumulators.proofs.group_states.GroupStates.len.Goals as goal

pub returns : goal.returns
returns c =
    c.len.ensures ∙ c.self.inside.rows.ok.0 ∙ length-view c.self.inside.rows.items c.self.inside.columns.items c.args.self.now c.self.view_is
