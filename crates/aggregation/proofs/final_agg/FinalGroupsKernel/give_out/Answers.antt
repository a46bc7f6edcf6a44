use Rattle.std.proofs.Common.{rules}
use Rattle.aggregation.proofs.final_agg.FinalGroupsKernel.give_out.Goals as goal

pub returns-clause-fails : goal.returns-clause-fails
returns-clause-fails c = search rules
