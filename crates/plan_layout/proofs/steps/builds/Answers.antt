use Rattle.plan_layout.proofs.steps.builds.Goals as goal
