use Rattle.std.proofs.Common.{rules}
use Rattle.run_ports.proofs.bounded_bytes.BoundedBytes.append.Goals as goal

pub returns-in-Ok-clause-bytes : goal.returns-in-Ok-clause-bytes
returns-in-Ok-clause-bytes c = search rules
