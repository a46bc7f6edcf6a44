use Rattle.std.proofs.Common.{drop}
use Rattle.pipe_stages.proofs.FrontLemmas.{FrontSoFar}
use Rattle.pipe_stages.proofs.fronts.front_stages.Given as goal

abbrev pub invariant-loop-filter : goal.invariant-loop-filter
invariant-loop-filter l = FrontSoFar l.cells l.taken l.filters (drop l.filter-index l.filters) l.stages.items
