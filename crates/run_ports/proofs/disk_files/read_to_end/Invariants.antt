use Rattle.std.proofs.Common.{◌≤◌, ◌-◌, vec_len}
use Rattle.run_ports.specs.declared.disk_files.TheConstants.{MOST_BYTES}
use Rattle.run_ports.proofs.disk_files.read_to_end.Given as goal

abbrev pub invariant-loop-count : goal.invariant-loop-count
invariant-loop-count g l = vec_len l.bytes ≤ MOST_BYTES

abbrev pub decreases-loop-count : goal.decreases-loop-count
decreases-loop-count g l = MOST_BYTES - vec_len l.bytes
