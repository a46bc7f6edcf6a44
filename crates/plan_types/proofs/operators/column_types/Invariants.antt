use Rattle.std.proofs.Common.{◌≡◌, ◌++◌, drop, map}
use Rattle.std.specs.Prelude.{Ok}
use Rattle.sql_exprs.specs.Forms.{form_view}
use Rattle.sql_exprs.specs.Typing.{typed_then}
use Rattle.plan_types.specs.Operators.{column_types}
use Rattle.plan_types.proofs.operators.column_types.Given as goal

abbrev pub invariant-loop-i : goal.invariant-loop-i
invariant-loop-i l =
    column_types l.columns l.path 0 (map form_view l.exprs)
    ≡ typed_then (column_types l.columns l.path l.i (map form_view (drop l.i l.exprs))) (λ types. Ok (l.types ++ types))
