use Rattle.std.proofs.Common.{◌≡◌, drop, map}
use Rattle.sql_exprs.specs.Calm.{are_calm}
use Rattle.sql_exprs.specs.Forms.{form_view, forms_of}
use Rattle.column_origins.proofs.origin.are_calm.Given as goal

abbrev pub invariant-loop-expr : goal.invariant-loop-expr
invariant-loop-expr l = are_calm l.types (forms_of (map form_view l.exprs)) ≡ are_calm l.types (forms_of (map form_view (drop l.expr-index l.exprs)))
