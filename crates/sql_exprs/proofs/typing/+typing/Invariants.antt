use Rattle.std.proofs.Common.{◌≡◌, ◌++◌, drop}
use Rattle.std.specs.Prelude.{Ok}
use Rattle.sql_exprs.specs.Typing.{all_branch_types, arg_types, typed_then}
use Rattle.sql_exprs.proofs.typing.+typing.Given as goal

abbrev pub invariant-arg_types-loop-at : goal.invariant-arg_types-loop-at
invariant-arg_types-loop-at l = arg_types l.columns l.path 0 l.args ≡ typed_then (arg_types l.columns l.path l.at (drop l.at l.args)) (λ kinds. Ok (l.kinds.items ++ kinds))

abbrev pub invariant-branch_types-loop-at : goal.invariant-branch_types-loop-at
invariant-branch_types-loop-at l = all_branch_types l.columns l.path 0 l.branches ≡ typed_then (all_branch_types l.columns l.path l.at (drop l.at l.branches)) (λ types. Ok (l.types.items ++ types))
