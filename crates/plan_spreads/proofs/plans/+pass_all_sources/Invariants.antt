use Rattle.std.proofs.Common.{length}
use Rattle.plan_spreads.proofs.plans.+pass_all_sources.Given as goal

abbrev pub decreases-pass_all_sources : goal.decreases-pass_all_sources
decreases-pass_all_sources l = length l.fragments.now
