use Rattle.plan_layout.proofs.edges.fetch_of.Goals as goal
