use Rattle.plan_reader.proofs.filters.pair_origin.Goals as goal
