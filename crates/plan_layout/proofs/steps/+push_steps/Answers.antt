use Rattle.plan_layout.proofs.steps.+push_steps.Goals as goal
