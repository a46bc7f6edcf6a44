use Rattle.std.proofs.Common.{◌≡◌, map, take}
use Rattle.sql_exprs.specs.Forms.{form_view}
use Rattle.plan_reader.proofs.copies.copy_exprs.Given as goal

abbrev pub invariant-loop-expr : goal.invariant-loop-expr
invariant-loop-expr l = map form_view l.copy.items ≡ map form_view (take l.expr-index l.exprs)
