use Rattle.std.proofs.Common.{◌+◌, ◌-◌, ◌*◌}
use Rattle.table_parts.proofs.texts.+texts.Given as goal

abbrev pub decreases-print_both-join+arg2 : goal.decreases-print_both-join+arg2
decreases-print_both-join+arg2 g l = 3 * l.low + 1

abbrev pub decreases-print_both-join+arg3 : goal.decreases-print_both-join+arg3
decreases-print_both-join+arg3 g l = 3 * l.high + 1

abbrev pub decreases-print_both : goal.decreases-print_both
decreases-print_both g l = 3 * l.parts - 1

abbrev pub decreases-print_parts : goal.decreases-print_parts
decreases-print_parts g l = 3 * l.parts
