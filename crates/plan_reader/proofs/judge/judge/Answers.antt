use Rattle.plan_reader.proofs.judge.judge.Goals as goal
