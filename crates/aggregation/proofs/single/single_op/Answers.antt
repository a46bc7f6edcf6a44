use Rattle.std.proofs.Common.{ap, refl}
use Rattle.std.specs.Prelude.{Contains, flat_map, ◌≡◌}
use Rattle.sql_values.specs.Bags.{SameBag}
use Rattle.relation_laws.specs.Groups.{groups_of}
use Rattle.relation_laws.specs.Verdicts.{fails, kept}
use Rattle.aggregation.specs.Giving.{GroupsState, verdicts_with}
use Rattle.aggregation.specs.contracts.single.SingleGroupsKernel.TheImpl.{ghosts}
use Rattle.aggregation.specs.declared.single.SingleGroups.{SingleGroups}
use Rattle.aggregation.proofs.MadeLemmas.{late-is, none-fails, none-gives, none-made, none-pages, none-said}
use Rattle.aggregation.proofs.single.single_op.Goals as goal

pub returns : goal.returns
returns c =
    let g = c.in_ok-groups.groups in
    let keys = c.args.keys.items in
    let calls = c.args.calls.items in
    let types = c.args.types.items in
    let given = c.as_slice.result.now in
    let made = c.in_ok-groups.ensures in
    let here = λ (groups : GroupsState). let s : SingleGroups = record { node = c.args.node; groups = groups } in s in
    late-is ghosts (here g) c.new-2.result (λ X B. SameBag (flat_map kept (groups_of types keys calls X)) B) (λ X n kind. (n ≡ c.args.node) × Contains (groups_of types keys calls X) (fails kind))
    types c.args.page c.new-2.ensures (ap here (none-made keys calls types given c.args.page g made)) (none-pages keys calls types given c.args.page g made)
    (λ X B. none-gives keys calls types given c.args.page g made (verdicts_with g.table X) (groups_of types keys calls X) (flat_map kept (groups_of types keys calls X)) B
    (none-said keys calls types given c.args.page g made X) refl)
    (λ X n kind. none-fails keys calls types given c.args.page g made c.args.node (verdicts_with g.table X) (groups_of types keys calls X) n kind
    (none-said keys calls types given c.args.page g made X))
