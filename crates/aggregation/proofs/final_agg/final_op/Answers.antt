use Rattle.std.proofs.Common.{◌≡◌, ◌≤◌, List, length, refl, ap, ◌∙◌, arith}
use Rattle.std.specs.Prelude.{Contains, flat_map}
use Rattle.sql_values.specs.Bags.{SameBag}
use Rattle.relation_laws.specs.Verdicts.{fails, kept}
use Rattle.bag_laws.specs.Pieces.{finals_of}
use Rattle.accumulators.specs.Groups.{empty_group}
use Rattle.operator_core.specs.Late.{LateState}
use Rattle.operator_core.specs.Rows.{Row}
use Rattle.aggregation.specs.Finals.{FinalState, layout_in}
use Rattle.aggregation.specs.Giving.{GroupsState, merged_with}
use Rattle.plan_trees.specs.Layouts.{layout_types}
use Rattle.aggregation.specs.contracts.final_agg.FinalGroupsKernel.TheImpl.{ghosts}
use Rattle.aggregation.proofs.FinalLemmas.{columns-long, final-layout, final-made, layout-long}
use Rattle.aggregation.proofs.MadeLemmas.{late-is, none-fails, none-gives, none-made, none-merged, none-pages}
use Rattle.aggregation.proofs.final_agg.final_op.Goals as goal

pub invariant_of-new : goal.invariant_of-new
invariant_of-new c =
    let calls = c.args.calls.items in
    let types = c.args.types.items in
    let taken : c.in_ok-taken.taken ≡ layout_types c.args.keys.items types calls
    = c.in_ok-taken.ensures ∙ (λ i. layout_types (c.deref.ensures.value i) (c.deref-2.ensures.value i) (c.deref-3.ensures.value i)) in
    let wide : c.in_ok-width.width ≤ length c.in_ok-taken.taken
    = omega (arith, c.in_ok-width.ensures.0, c.len.ensures, c.args.keys.ok.0, ap length taken, layout-long c.args.keys.items types calls) in
    final-made c.in_ok-columns.columns.items calls types c.as_slice.result.now c.args.page c.in_ok-width.width c.in_ok-part.part c.in_ok-taken.taken c.in_ok-groups.groups c.in_ok-groups.ensures
    c.in_ok-columns.ensures c.in_ok-width.ensures.1 wide (c.in_ok-part.ensures ∙ (λ i. empty_group (c.deref-7.ensures.value i) (c.deref-6.ensures.value i)))

pub returns-clause-late : goal.returns-clause-late
returns-clause-late c =
    let g = c.in_ok-groups.groups in
    let columns = c.in_ok-columns.columns.items in
    let calls = c.args.calls.items in
    let types = c.args.types.items in
    let given = c.as_slice.result.now in
    let page = c.args.page in
    let made = c.in_ok-groups.ensures in
    let width = length c.args.keys.items in
    let size : length columns ≡ width = columns-long columns c.in_ok-width.width c.in_ok-columns.ensures ∙ omega (arith, c.in_ok-width.ensures.0, c.len.ensures, c.args.keys.ok.0) in
    let taken : c.in_ok-taken.taken ≡ layout_types c.args.keys.items types calls
    = c.in_ok-taken.ensures ∙ (λ i. layout_types (c.deref.ensures.value i) (c.deref-2.ensures.value i) (c.deref-3.ensures.value i)) in
    let here = λ (groups : GroupsState). let s : FinalState = record { node = c.args.node; groups = groups; taken = c.in_ok-taken.taken } in s in
    let said : (X : List Row) → merged_with g.table X ≡ finals_of types width calls X = λ X. none-merged columns calls types given page g made X ∙ ap (λ n. finals_of types n calls X) size in
    late-is ghosts (here g) c.new-3.result (λ X B. SameBag (flat_map kept (finals_of types width calls X)) B) (λ X n kind. (n ≡ c.args.node) × Contains (finals_of types width calls X) (fails kind))
    (layout_types c.args.keys.items types calls) page c.new-3.ensures (ap here (none-made columns calls types given page g made))
    (λ i. record { takes = taken i; size = (none-pages columns calls types given page g made i).size })
    (λ X B. none-gives columns calls types given page g made (merged_with g.table X) (finals_of types width calls X) (flat_map kept (finals_of types width calls X)) B (said X) refl)
    (λ X n kind. none-fails columns calls types given page g made c.args.node (merged_with g.table X) (finals_of types width calls X) n kind (said X))

pub returns-clause-layout : goal.returns-clause-layout
returns-clause-layout c =
    let size : c.in_ok-width.width ≡ length c.args.keys.items = omega (arith, c.in_ok-width.ensures.0, c.len.ensures, c.args.keys.ok.0) in
    ap (λ (op : LateState FinalState). layout_in op.kernel) c.new-3.ensures
    ∙ final-layout c.in_ok-columns.columns.items c.args.calls.items c.args.types.items c.as_slice.result.now c.in_ok-taken.taken c.args.page c.in_ok-width.width (length c.args.keys.items) c.args.node
    c.in_ok-groups.groups c.in_ok-groups.ensures c.in_ok-columns.ensures size
