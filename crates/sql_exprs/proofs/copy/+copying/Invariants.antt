use Rattle.std.proofs.Common.{◌≡◌, map, take}
use Rattle.sql_exprs.specs.Forms.{branch_view, form_view}
use Rattle.sql_exprs.proofs.copy.+copying.Given as goal

abbrev pub invariant-copy_all-loop-expr : goal.invariant-copy_all-loop-expr
invariant-copy_all-loop-expr l = map form_view l.copy.items ≡ map form_view (take l.expr-index l.exprs)

abbrev pub invariant-copy_branches-loop-branch : goal.invariant-copy_branches-loop-branch
invariant-copy_branches-loop-branch l = map branch_view l.copy.items ≡ map branch_view (take l.branch-index l.branches)
