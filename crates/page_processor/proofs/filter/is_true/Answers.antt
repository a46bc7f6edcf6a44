use Rattle.page_processor.proofs.filter.is_true.Goals as goal
