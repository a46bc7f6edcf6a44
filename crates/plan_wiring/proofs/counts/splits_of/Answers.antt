use Rattle.plan_wiring.proofs.counts.splits_of.Goals as goal
