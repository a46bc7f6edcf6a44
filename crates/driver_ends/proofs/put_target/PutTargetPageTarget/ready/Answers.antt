use Rattle.std.proofs.Common.{◌≡◌, ◌∙◌, ◌+◌, ◌≤◌, true, ap, arith, subst, sym}
use Rattle.std.specs.Prelude.{MatchOption}
use Rattle.stage_moves.specs.Looks.{HasWaited}
use Rattle.driver_ends.specs.declared.put_target.PutKind.{PutKind}
use Rattle.driver_ends.specs.Ends.{put_looks}
use Rattle.driver_ends.specs.Targets.{AreThrough, HasStuckOutlet, TargetState, fulls_of, may_end}
use Rattle.driver_ends.proofs.EndLemmas.{kept_made, none_after, none_due, same_dues, same_fulls, seats_made, some_after, stuck_waited, through_finished, through_wants, waited_later, where_ok}
use Rattle.driver_ends.proofs.put_target.PutTargetPageTarget.ready.Goals as goal

abbrev kind_of : TargetState → PutKind
kind_of t = t.kind

pub returns-in-Some-clause-made : goal.returns-in-Some-clause-made
returns-in-Some-clause-made g c = λ ok. kept_made (may_end c.args.self.now) c.args.self.now c.advance.new.self (ap kind_of c.advance.ensures.rest) c.advance.ensures.kept

pub returns-in-Some-clause-answer : goal.returns-in-Some-clause-answer
returns-in-Some-clause-answer g c =
    let s = subst (λ o. MatchOption o (AreThrough c.advance.new.self)
    (λ on. HasStuckOutlet (may_end c.advance.new.self) c.args.self.now.outlets c.advance.new.self.outlets on × g.B.Bells.shown c.advance.new.bells on.bell on.seen)) c.in-Some.is c.in_ok-on.ensures.answer in
    stuck_waited c.args.self.now c.advance.new.self (g.B.Bells.shown c.advance.new.bells) c.in-Some.on s.0 s.1

pub returns-in-None-clause-made : goal.returns-in-None-clause-made
returns-in-None-clause-made g c = λ ok. kept_made (may_end c.args.self.now) c.args.self.now c.advance.new.self (ap kind_of c.advance.ensures.rest) c.advance.ensures.kept

pub returns-in-None-clause-through : goal.returns-in-None-clause-through
returns-in-None-clause-through g c told =
    let t = c.advance.new.self in
    let through : AreThrough t = subst (λ o. MatchOption o (AreThrough t)
    (λ on. HasStuckOutlet (may_end t) c.args.self.now.outlets t.outlets on × g.B.Bells.shown c.advance.new.bells on.bell on.seen)) c.in-None.is c.in_ok-on.ensures.answer in
    let now : t.is_told ≡ true = ap (λ (s : TargetState). s.is_told) c.advance.ensures.rest ∙ told in
    through_finished t through (none_due c.is_due.result t.waiting c.if-not-is_due.true (λ waits. c.is_due.ensures.last now waits)) now

pub returns-in-None-clause-clear : goal.returns-in-None-clause-clear
returns-in-None-clause-clear g c untold =
    let t = c.advance.new.self in
    let through : AreThrough t = subst (λ o. MatchOption o (AreThrough t)
    (λ on. HasStuckOutlet (may_end t) c.args.self.now.outlets t.outlets on × g.B.Bells.shown c.advance.new.bells on.bell on.seen)) c.in-None.is c.in_ok-on.ensures.answer in
    through_wants t through (ap (λ (s : TargetState). s.is_told) c.advance.ensures.rest ∙ untold)

pub returns-clause-made : goal.returns-clause-made
returns-clause-made g c = λ ok.
    kept_made (may_end c.spread.new.self) c.spread.new.self c.advance-2.new.self (ap kind_of c.advance-2.ensures.rest) c.advance-2.ensures.kept
    ∙ seats_made c.advance.new.self c.spread.new.self (ap kind_of c.spread.ensures.rest) c.spread.ensures.seats
    ∙ kept_made (may_end c.args.self.now) c.args.self.now c.advance.new.self (ap kind_of c.advance.ensures.rest) c.advance.ensures.kept

pub returns-clause-answer : goal.returns-clause-answer
returns-clause-answer g c =
    let old = c.args.self.now in
    let mid = c.spread.new.self in
    let new = c.advance-2.new.self in
    let shown = g.B.Bells.shown c.advance-2.new.bells in
    let more : fulls_of old.outlets ≤ fulls_of mid.outlets = omega (arith, c.advance.ensures.fulls, same_fulls c.advance.new.self.outlets mid.outlets c.spread.ensures.seats) in
    some_after _ _ (HasWaited (put_looks old) (put_looks new) shown) c.advance-2.result c.advance-2.ensures.answer
    (λ on s. waited_later old mid new shown on more (stuck_waited mid new shown on s.0 s.1))

pub returns-clause-through : goal.returns-clause-through
returns-clause-through g c =
    let new = c.advance-2.new.self in
    none_after _ _ _ c.advance-2.result c.advance-2.ensures.answer (λ through told.
    through_finished new through (ap (λ (t : TargetState). t.waiting) c.advance-2.ensures.rest ∙ c.in_ok-spread-in-None-2.ensures.none)
    (ap (λ (t : TargetState). t.is_told) c.advance-2.ensures.rest ∙ ap (λ (t : TargetState). t.is_told) c.spread.ensures.rest ∙ ap (λ (t : TargetState). t.is_told) c.advance.ensures.rest ∙ told))

pub returns-clause-clear : goal.returns-clause-clear
returns-clause-clear g c =
    let new = c.advance-2.new.self in
    none_after _ _ _ c.advance-2.result c.advance-2.ensures.answer (λ through untold.
    through_wants new through
    (ap (λ (t : TargetState). t.is_told) c.advance-2.ensures.rest ∙ ap (λ (t : TargetState). t.is_told) c.spread.ensures.rest ∙ ap (λ (t : TargetState). t.is_told) c.advance.ensures.rest ∙ untold))

pub returns-clause-looks : goal.returns-clause-looks
returns-clause-looks g c =
    omega (arith, c.advance.ensures.fulls, same_fulls c.advance.new.self.outlets c.spread.new.self.outlets c.spread.ensures.seats, c.advance-2.ensures.fulls)

pub returns-clause-rang : goal.returns-clause-rang
returns-clause-rang g c = λ ok bell times rang.
    let due = same_dues c.advance.new.self.outlets c.spread.new.self.outlets bell c.spread.ensures.seats in
    where_ok c.advance-2.result c.advance-2.ensures.rang ok bell times
    (subst (λ n. g.B.Bells.rang c.advance.new.bells bell (times + n)) (sym due) (c.in_ok-on.ensures.rang bell times rang))
