use Rattle.std.proofs.Common.{◌+◌, ◌-◌, ◌*◌}
use Rattle.table_parts.proofs.parts.+parts.Given as goal

abbrev pub decreases-read_both-join+arg2 : goal.decreases-read_both-join+arg2
decreases-read_both-join+arg2 g l = 3 * l.low + 1

abbrev pub decreases-read_both-join+arg3 : goal.decreases-read_both-join+arg3
decreases-read_both-join+arg3 g l = 3 * l.high + 1

abbrev pub decreases-read_both : goal.decreases-read_both
decreases-read_both g l = 3 * l.parts - 1

abbrev pub decreases-read_parts : goal.decreases-read_parts
decreases-read_parts g l = 3 * l.parts
