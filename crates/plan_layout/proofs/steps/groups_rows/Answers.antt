use Rattle.plan_layout.proofs.steps.groups_rows.Goals as goal
