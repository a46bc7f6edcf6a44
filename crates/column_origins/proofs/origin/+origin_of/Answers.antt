use Rattle.column_origins.proofs.origin.+origin_of.Goals as goal
