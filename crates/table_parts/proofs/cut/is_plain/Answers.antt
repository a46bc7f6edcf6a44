use Rattle.table_parts.proofs.cut.is_plain.Goals as goal
