use Rattle.std.proofs.Common.{◌+◌, ◌*◌}
use Rattle.plan_docs.proofs.read_nodes.+nodes.Given as goal

abbrev pub decreases-read_inner : goal.decreases-read_inner
decreases-read_inner l = 3 * l.levels + 1

abbrev pub decreases-read_levels : goal.decreases-read_levels
decreases-read_levels l = 3 * l.levels

abbrev pub decreases-read_op : goal.decreases-read_op
decreases-read_op l = 3 * l.levels + 2
