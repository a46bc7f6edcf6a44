use Rattle.column_origins.proofs.origin.left_column.Goals as goal
