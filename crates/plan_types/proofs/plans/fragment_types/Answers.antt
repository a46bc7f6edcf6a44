use Rattle.std.proofs.Common.{rules}
use Rattle.plan_types.proofs.plans.fragment_types.Goals as goal

pub returns-in_err-pass_output : goal.returns-in_err-pass_output
returns-in_err-pass_output c = search rules
