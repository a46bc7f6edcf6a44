use Rattle.plan_layout.proofs.edges.target_of.Goals as goal
