use Rattle.tree_evaluator.proofs.node_rows.NodeRows.push.Goals as goal
