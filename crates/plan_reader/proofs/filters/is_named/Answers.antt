use Rattle.plan_reader.proofs.filters.is_named.Goals as goal
