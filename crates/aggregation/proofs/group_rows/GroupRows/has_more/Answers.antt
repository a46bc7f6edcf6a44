use Rattle.std.proofs.Common.{[], ap, sym, ◌∙◌}
use Rattle.aggregation.specs.Giving.{GroupsState, has_verdict, verdicts_with}
use Rattle.aggregation.proofs.MadeLemmas.{more-parts}
use Rattle.aggregation.proofs.group_rows.GroupRows.has_more.Goals as goal

pub returns-clause-parts : goal.returns-clause-parts
returns-clause-parts c =
    more-parts c.args.self.now c.has_group.result (ap (λ (g : GroupsState). g.begun) (sym c.self.view_is) ∙ c.if-self.false)
    (c.has_group.ensures ∙ ap (λ (g : GroupsState). has_verdict (verdicts_with g.table [])) c.self.view_is)
