use Rattle.std.proofs.Common.{rules}
use Rattle.driver_ends.specs.Ends.{put_wants}
use Rattle.driver_ends.specs.Targets.{Wants}
use Rattle.std.specs.Bool.{Decides, one_answer}
use Rattle.driver_ends.proofs.EndLemmas.{wants_decides}
use Rattle.driver_ends.proofs.put_target.PutTarget.wants.Goals as goal

pub returns-then-not-self-clause-is : goal.returns-then-not-self-clause-is
returns-then-not-self-clause-is c =
    let mine : Decides c.are_clear.result (Wants c.args.self.now) = search rules in
    one_answer c.are_clear.result (put_wants c.args.self.now) mine (wants_decides c.args.self.now)
