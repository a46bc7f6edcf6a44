use Rattle.std.proofs.Common.{◌++◌, ap}
use Rattle.aggregation.specs.Giving.{GroupsState, verdicts_with}
use Rattle.aggregation.proofs.OperatorLemmas.{took-fails, took-gives}
use Rattle.aggregation.proofs.SingleLemmas.{verdicts-taken}
use Rattle.aggregation.proofs.single.SingleGroupsKernel.take_in.Goals as goal

pub returns-clause-gives : goal.returns-clause-gives
returns-clause-gives c =
    let old = c.args.self.now.groups in
    let new = c.add_page.new.self in
    let rows = c.args.page.rows in
    let same = c.in_ok-add_page.ensures.same in
    λ u X B g. took-gives old new (verdicts_with new.table X) (verdicts_with old.table (rows ++ X)) (ap (λ (s : GroupsState). s.begun) same) (ap (λ (s : GroupsState). s.left) same)
    (verdicts-taken old.table new.table (ap (λ (s : GroupsState). s.table) same) rows X c.in_ok-add_page.ensures.ok) B g

pub returns-clause-fails : goal.returns-clause-fails
returns-clause-fails c =
    let old = c.args.self.now.groups in
    let new = c.add_page.new.self in
    let rows = c.args.page.rows in
    let same = c.in_ok-add_page.ensures.same in
    λ u X node kind. took-fails old new (verdicts_with new.table X) (verdicts_with old.table (rows ++ X)) (ap (λ (s : GroupsState). s.begun) same) (ap (λ (s : GroupsState). s.left) same)
    (verdicts-taken old.table new.table (ap (λ (s : GroupsState). s.table) same) rows X c.in_ok-add_page.ensures.ok) c.args.self.now.node node kind
