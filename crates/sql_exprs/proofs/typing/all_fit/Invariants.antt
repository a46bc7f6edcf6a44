use Rattle.std.proofs.Common.{◌≡◌, drop}
use Rattle.std.specs.List.{list_all}
use Rattle.sql_exprs.specs.Typing.{fits_branch}
use Rattle.sql_exprs.proofs.typing.all_fit.Given as goal

abbrev pub invariant-loop-branch : goal.invariant-loop-branch
invariant-loop-branch l = list_all (fits_branch l.other) l.branches ≡ list_all (fits_branch l.other) (drop l.branch-index l.branches)
