use Rattle.std.proofs.Common.{◌≡◌, sym}
use Rattle.operator_core.specs.declared.fault.OpFault.TheVariants.{Expr}
use Rattle.row_ops.specs.contracts.filter_project.FilterProject.{the_view}
use Rattle.row_ops.proofs.HeldLemmas.{page-gives, page-fails, page-fault}
use Rattle.row_ops.proofs.filter_project.FilterProjectOperator.add_input.Goals as goal

pub returns-in-None-clause-gives : goal.returns-in-None-clause-gives
returns-in-None-clause-gives c = λ _ X B g.
    page-gives (the_view c.self.inside) c.args.self.now c.self.view_is c.args.page c.columns.result.now c.in_ok-judged.judged
    c.columns.ensures c.requires.takes.of_types (rw (sym c.predicate.ensures) c.in_ok-judged.ensures.judged) c.in_default.is c.requires.needs X B g

pub returns-in-None-clause-fails : goal.returns-in-None-clause-fails
returns-in-None-clause-fails c = λ _ X node kind.
    page-fails (the_view c.self.inside) c.args.self.now c.self.view_is c.args.page c.columns.result.now c.in_ok-judged.judged
    c.columns.ensures c.requires.takes.of_types (rw (sym c.predicate.ensures) c.in_ok-judged.ensures.judged) c.in_default.is X node kind

pub returns-in-Some-failure-clause-gives : goal.returns-in-Some-failure-clause-gives
returns-in-Some-failure-clause-gives c = λ _ X B g.
    page-gives (the_view c.self.inside) c.args.self.now c.self.view_is c.args.page c.columns.result.now c.in_ok-judged.judged
    c.columns.ensures c.requires.takes.of_types (rw (sym c.predicate.ensures) c.in_ok-judged.ensures.judged) c.in_default.is c.requires.needs X B g

pub returns-in-Some-failure-clause-fails : goal.returns-in-Some-failure-clause-fails
returns-in-Some-failure-clause-fails c = λ _ X node kind.
    page-fails (the_view c.self.inside) c.args.self.now c.self.view_is c.args.page c.columns.result.now c.in_ok-judged.judged
    c.columns.ensures c.requires.takes.of_types (rw (sym c.predicate.ensures) c.in_ok-judged.ensures.judged) c.in_default.is X node kind

pub returns-in-Some-failure-clause-fault : goal.returns-in-Some-failure-clause-fault
returns-in-Some-failure-clause-fault c = λ node kind e X.
    let same : Expr c.self.inside.node c.in-Some-failure.kind ≡ Expr node kind = cc in
    page-fault (the_view c.self.inside) c.args.self.now c.self.view_is c.args.page c.columns.result.now c.in_ok-judged.judged
    c.columns.ensures c.requires.takes.of_types (rw (sym c.predicate.ensures) c.in_ok-judged.ensures.judged) c.in_default.is c.in-Some-failure.kind c.in-Some-failure.is node kind same X
