use Rattle.plan_wiring.proofs.bells.Bells.take.Goals as goal
