use Rattle.plan_layout.proofs.layout.tasks_of.Goals as goal
