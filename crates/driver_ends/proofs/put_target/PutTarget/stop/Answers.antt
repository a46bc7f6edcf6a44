use Rattle.std.proofs.Common.{sym, subst}
use Rattle.driver_ends.specs.Targets.{HasSent, HavePutFirst, HavePutAll, IsFinished, TargetState}
use Rattle.driver_ends.proofs.TargetLemmas.{sent_all, sent_first}
use Rattle.driver_ends.specs.InTarget.{target_view}
use Rattle.driver_ends.proofs.put_target.PutTarget.stop.Goals as goal

pub returns-clause-first : goal.returns-clause-first
returns-clause-first c given sent =
    let is = c.self.view_is in
    subst (λ (s : TargetState). HavePutFirst s.kind given c.give_back.new.seats.items) is
    (sent_first (target_view c.self.inside) c.give_back.new.seats.items given c.give_back.ensures (subst (λ (s : TargetState). HasSent s given) (sym is) sent))

pub returns-clause-all : goal.returns-clause-all
returns-clause-all c over given sent =
    let is = c.self.view_is in
    subst (λ (s : TargetState). HavePutAll s.kind given c.give_back.new.seats.items) is
    (sent_all (target_view c.self.inside) c.give_back.new.seats.items given c.give_back.ensures (subst IsFinished (sym is) over) (subst (λ (s : TargetState). HasSent s given) (sym is) sent))
