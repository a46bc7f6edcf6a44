use Rattle.plan_wiring.proofs.shared.filters_of.Goals as goal
