use Rattle.std.proofs.Common.{length}
use Rattle.plan_types.proofs.plans.+all_types.Given as goal

abbrev pub decreases-all_types : goal.decreases-all_types
decreases-all_types l = length l.fragments.now
