use Rattle.std.proofs.Common.{rules}
use Rattle.run_ports.proofs.files.Refusals.note.Goals as goal

pub returns-in-Err-Failed-clause-count : goal.returns-in-Err-Failed-clause-count
returns-in-Err-Failed-clause-count c = search rules
