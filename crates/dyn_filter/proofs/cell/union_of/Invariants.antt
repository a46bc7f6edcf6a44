use Rattle.std.proofs.Common.{map}
use Rattle.std.specs.Borrow.{Bor}
use Rattle.dyn_filter.specs.declared.domain.Domain.{Domain}
use Rattle.dyn_filter.proofs.CellLemmas.{IsUnionOfFirst}
use Rattle.dyn_filter.proofs.cell.union_of.Given as goal

abbrev pub invariant-loop-domain : goal.invariant-loop-domain
invariant-loop-domain l = IsUnionOfFirst (map (λ (r : Bor Domain). r.now) l.domains) l.domain-index l.all
