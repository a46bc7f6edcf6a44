use Rattle.driver_ends.proofs.page_joins.in_memory_of.Goals as goal
