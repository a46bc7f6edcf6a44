use Rattle.std.proofs.Common.{drop, map}
use Rattle.sql_exprs.specs.Forms.{form_view}
use Rattle.page_processor.specs.Typed.{AllTyped}
use Rattle.tree_evaluator.proofs.fit.are_typed.Given as goal

abbrev pub invariant-loop-expr : goal.invariant-loop-expr
invariant-loop-expr l = AllTyped l.types (map form_view (drop l.expr-index l.exprs)) → AllTyped l.types (map form_view l.exprs)
