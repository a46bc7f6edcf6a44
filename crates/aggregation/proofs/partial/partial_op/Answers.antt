use Rattle.std.proofs.Common.{ap, refl}
use Rattle.sql_values.specs.Bags.{SameBag}
use Rattle.bag_laws.specs.Pieces.{partials_of}
use Rattle.operator_core.specs.Lates.{NoFailure}
use Rattle.aggregation.specs.Giving.{GroupsState, parts_with}
use Rattle.aggregation.specs.contracts.partial.PartialGroupsKernel.TheImpl.{ghosts}
use Rattle.aggregation.specs.declared.partial.PartialGroups.{PartialGroups}
use Rattle.aggregation.proofs.MadeLemmas.{late-is, none-gives, none-made, none-pages, none-parts}
use Rattle.aggregation.proofs.partial.partial_op.Goals as goal

pub returns : goal.returns
returns c =
    let g = c.in_ok-groups.groups in
    let keys = c.args.keys.items in
    let calls = c.args.calls.items in
    let types = c.args.types.items in
    let given = c.as_slice.result.now in
    let made = c.in_ok-groups.ensures in
    let here = λ (groups : GroupsState). let s : PartialGroups = record { groups = groups } in s in
    late-is ghosts (here g) c.new-2.result (λ X B. SameBag (partials_of keys calls X) B) NoFailure types c.args.page c.new-2.ensures
    (ap here (none-made keys calls types given c.args.page g made)) (none-pages keys calls types given c.args.page g made)
    (λ X B. none-gives keys calls types given c.args.page g made (parts_with g.table X) (parts_with g.table X) (partials_of keys calls X) B refl
    (none-parts keys calls types given c.args.page g made X))
    (λ X n kind. ((λ e. e), (λ e. e)))
