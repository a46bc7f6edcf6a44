use Rattle.plan_wiring.proofs.shared.cells_of.Goals as goal
