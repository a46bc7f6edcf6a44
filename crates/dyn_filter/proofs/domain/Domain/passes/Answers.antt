use Rattle.dyn_filter.proofs.domain.Domain.passes.Goals as goal
