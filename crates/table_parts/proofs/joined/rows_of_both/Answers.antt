use Rattle.table_parts.proofs.joined.rows_of_both.Goals as goal
