use Rattle.tree_evaluator.proofs.fit.is_typed.Goals as goal
