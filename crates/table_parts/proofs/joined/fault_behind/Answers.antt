use Rattle.table_parts.proofs.joined.fault_behind.Goals as goal
