use Rattle.plan_wiring.proofs.shared.gathers_of.Goals as goal
