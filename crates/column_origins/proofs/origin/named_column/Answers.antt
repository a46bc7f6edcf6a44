use Rattle.column_origins.proofs.origin.named_column.Goals as goal
