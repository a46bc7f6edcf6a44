use Rattle.dyn_filter.proofs.hashed.is_found.Goals as goal
