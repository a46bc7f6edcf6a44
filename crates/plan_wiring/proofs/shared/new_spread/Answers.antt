use Rattle.plan_wiring.proofs.shared.new_spread.Goals as goal
