use Rattle.plan_wiring.proofs.counts.fragment_putters.Goals as goal
