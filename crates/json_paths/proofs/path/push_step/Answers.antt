use Rattle.std.proofs.Common.{arith}
use Rattle.std.proofs.lemmas.Grind.{common_steps}
use Rattle.json_paths.proofs.path.push_step.Goals as goal

pub returns-in_ok-push_str-in-Index : goal.returns-in_ok-push_str-in-Index
returns-in_ok-push_str-in-Index c = grind (arith, common_steps)
