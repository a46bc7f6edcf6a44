use Rattle.tree_evaluator.proofs.judges.keep.Goals as goal
