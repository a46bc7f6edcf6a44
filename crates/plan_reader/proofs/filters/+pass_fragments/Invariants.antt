use Rattle.std.proofs.Common.{length}
use Rattle.plan_reader.proofs.filters.+pass_fragments.Given as goal

abbrev pub decreases-pass_fragments : goal.decreases-pass_fragments
decreases-pass_fragments l = length l.fragments.now
