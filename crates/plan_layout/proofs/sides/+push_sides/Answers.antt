use Rattle.plan_layout.proofs.sides.+push_sides.Goals as goal
