use Rattle.std.proofs.Common.{rules}
use Rattle.row_ops.proofs.filter_project.FilterProject.fault.Goals as goal

pub returns : goal.returns
returns c = search rules
