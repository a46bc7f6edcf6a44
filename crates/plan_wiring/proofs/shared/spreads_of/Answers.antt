use Rattle.plan_wiring.proofs.shared.spreads_of.Goals as goal
