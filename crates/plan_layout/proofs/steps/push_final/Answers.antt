use Rattle.plan_layout.proofs.steps.push_final.Goals as goal
