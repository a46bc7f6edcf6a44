use Rattle.std.proofs.Common.{length}
use Rattle.plan_spreads.proofs.plans.+all_spreads.Given as goal

abbrev pub decreases-all_spreads : goal.decreases-all_spreads
decreases-all_spreads l = length l.fragments.now
