use Rattle.table_parts.proofs.cut.line_end.Goals as goal
