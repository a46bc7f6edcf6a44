use Rattle.column_origins.proofs.origin.is_calm_filter.Goals as goal
