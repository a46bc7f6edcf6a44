use Rattle.std.proofs.Common.{◌≡◌, ℕ, List, ap, sym, subst, ◌∙◌, arith}
use Rattle.accumulators.specs.GroupLists.{AreGroups, group_list}
use Rattle.accumulators.specs.Groups.{Group, empty_group, group_kept}
use Rattle.accumulators.proofs.GroupListLemmas.{are-none, list-none}
use Rattle.accumulators.proofs.group_states.GroupStates.new.Goals as goal

pub invariant_of-result-2 : goal.invariant_of-result-2
invariant_of-result-2 c =
    let group : Group = group_kept c.none.inside.rows c.none.inside.states.items in
    let types = c.args.types.now in
    let calls = c.args.calls.now in
    let cols = c.in_ok-no_columns.field-0.items in
    let same : group ≡ empty_group types calls = c.none.view_is ∙ c.in_ok-none.ensures in
    subst (λ (xs : List ℕ). AreGroups group xs cols) (sym c.new-2.ensures.items)
    (are-none group types calls cols c.in_ok-no_columns.ensures (omega (arith, c.if-calls-gt-MOST_CALLS.false)) (ap (λ (x : Group). x.calls) same) (ap (λ (x : Group). x.kinds) same))

pub returns : goal.returns
returns c =
    let group : Group = group_kept c.none.inside.rows c.none.inside.states.items in
    let types = c.args.types.now in
    let calls = c.args.calls.now in
    let cols = c.in_ok-no_columns.field-0.items in
    ap (λ (xs : List ℕ). group_list xs cols) c.new-2.ensures.items ∙ list-none group types calls cols c.in_ok-no_columns.ensures
