use Rattle.std.proofs.Common.{List, ℕ, take, ap, sym, subst, ◌∙◌}
use Rattle.accumulators.specs.GroupLists.{AreGroups, GroupList, group_list}
use Rattle.accumulators.proofs.GroupListLemmas.{taken-are, taken-list}
use Rattle.accumulators.proofs.group_states.GroupStates.truncate.Goals as goal

pub invariant_of-self : goal.invariant_of-self
invariant_of-self c =
    let s = c.self.inside in
    subst (λ (rows : List ℕ). AreGroups s.none rows s.columns.items) (sym c.truncate.ensures.items) (taken-are s.none c.args.place s.rows.items s.columns.items c.self.invariant)

pub returns : goal.returns
returns c =
    let s = c.self.inside in
    ap (λ (rows : List ℕ). group_list rows s.columns.items) c.truncate.ensures.items
    ∙ taken-list c.args.place s.rows.items s.columns.items
    ∙ ap (λ (l : GroupList). record l { groups = take c.args.place l.groups }) c.self.view_is
