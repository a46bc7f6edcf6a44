use Rattle.dyn_filter.proofs.domain.Domain.holds.Goals as goal
