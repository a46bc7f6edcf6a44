use Rattle.std.proofs.Common.{ap, arith}
use Rattle.driver_ends.specs.Targets.{TargetState}
use Rattle.driver_ends.proofs.EndLemmas.{same_dues, same_fulls, seats_made}
use Rattle.driver_ends.proofs.put_target.PutTargetPageTarget.put.Goals as goal

pub returns-clause-made : goal.returns-clause-made
returns-clause-made c = λ ok. seats_made c.args.self.now c.put.new.self (ap (λ (t : TargetState). t.kind) c.put.ensures.rest) c.put.ensures.seats

pub returns-clause-looks : goal.returns-clause-looks
returns-clause-looks c = omega (arith, same_fulls c.args.self.now.outlets c.put.new.self.outlets c.put.ensures.seats)

pub returns-clause-dues : goal.returns-clause-dues
returns-clause-dues c = λ ok bell. same_dues c.args.self.now.outlets c.put.new.self.outlets bell c.put.ensures.seats
