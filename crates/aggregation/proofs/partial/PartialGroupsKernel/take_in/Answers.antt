use Rattle.std.proofs.Common.{◌++◌, ap}
use Rattle.aggregation.specs.Giving.{GroupsState, parts_with}
use Rattle.aggregation.proofs.OperatorLemmas.{took-gives}
use Rattle.aggregation.proofs.SingleLemmas.{parts-taken}
use Rattle.aggregation.proofs.partial.PartialGroupsKernel.take_in.Goals as goal

pub returns-clause-gives : goal.returns-clause-gives
returns-clause-gives c =
    let old = c.args.self.now.groups in
    let new = c.add_page.new.self in
    let rows = c.args.page.rows in
    let same = c.in_ok-add_page.ensures.same in
    λ u X B g. took-gives old new (parts_with new.table X) (parts_with old.table (rows ++ X)) (ap (λ (s : GroupsState). s.begun) same) (ap (λ (s : GroupsState). s.left) same)
    (parts-taken old.table new.table (ap (λ (s : GroupsState). s.table) same) rows X c.in_ok-add_page.ensures.ok) B g
