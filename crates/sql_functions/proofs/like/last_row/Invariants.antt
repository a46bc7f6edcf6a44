use Rattle.std.proofs.Common.{◌≡◌, [], take, reverse}
use Rattle.sql_functions.specs.Like.{is_like}
use Rattle.sql_functions.specs.LikeRows.{ends_from}
use Rattle.sql_functions.proofs.like.last_row.Given as goal

abbrev pub invariant-loop-p : goal.invariant-loop-p
invariant-loop-p l = l.row.items ≡ ends_from [] (is_like (reverse (take l.p-index l.pattern))) l.text
