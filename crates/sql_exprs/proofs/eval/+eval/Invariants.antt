use Rattle.std.proofs.Common.{◌≡◌, drop}
use Rattle.sql_exprs.specs.Meaning.{arg_values, branch_values}
use Rattle.sql_exprs.specs.Rows.{and_of, chosen_of, coalesce_of, or_of}
use Rattle.sql_exprs.proofs.TruthLemmas.{and_from, or_from}
use Rattle.sql_exprs.proofs.eval.+eval.Given as goal

abbrev pub invariant-eval_coalesce-loop-arg : goal.invariant-eval_coalesce-loop-arg
invariant-eval_coalesce-loop-arg g l = coalesce_of (arg_values l.types l.args (g.C.Cells.values l.row)) ≡ coalesce_of (arg_values l.types (drop l.arg-index l.args) (g.C.Cells.values l.row))

abbrev pub invariant-eval_branches-loop-branch : goal.invariant-eval_branches-loop-branch
invariant-eval_branches-loop-branch g l = chosen_of (branch_values l.types l.branches (g.C.Cells.values l.row)) ≡ chosen_of (branch_values l.types (drop l.branch-index l.branches) (g.C.Cells.values l.row))

abbrev pub invariant-eval_and-loop-arg : goal.invariant-eval_and-loop-arg
invariant-eval_and-loop-arg g l = and_of (arg_values l.types l.args (g.C.Cells.values l.row)) ≡ and_from l.so_far (arg_values l.types (drop l.arg-index l.args) (g.C.Cells.values l.row))

abbrev pub invariant-eval_or-loop-arg : goal.invariant-eval_or-loop-arg
invariant-eval_or-loop-arg g l = or_of (arg_values l.types l.args (g.C.Cells.values l.row)) ≡ or_from l.so_far (arg_values l.types (drop l.arg-index l.args) (g.C.Cells.values l.row))
