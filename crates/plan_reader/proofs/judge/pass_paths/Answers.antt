use Rattle.plan_reader.proofs.judge.pass_paths.Goals as goal
