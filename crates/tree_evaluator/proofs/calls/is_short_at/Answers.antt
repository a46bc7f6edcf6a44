use Rattle.tree_evaluator.proofs.calls.is_short_at.Goals as goal
