use Rattle.net_parts.proofs.BuildLemmas.{PartsSoFar}
use Rattle.net_parts.proofs.builds.build_filters.Given as goal

abbrev pub invariant-loop-place : goal.invariant-loop-place
invariant-loop-place l = PartsSoFar l.cells l.own l.task l.on l.filters l.place l.made.items
