use Rattle.tree_evaluator.proofs.lists.push_first.Goals as goal
