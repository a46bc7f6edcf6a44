use Rattle.plan_layout.proofs.layout.driver_numbers.Goals as goal
