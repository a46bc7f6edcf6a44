use Rattle.std.proofs.Common.{Option, Result, IsOk, [], refl, sym, subst, arith}
use Rattle.operator_core.specs.Answers.{NotMemory}
use Rattle.operator_core.specs.declared.fault.OpFault.{OpFault}
use Rattle.blocked.specs.declared.blocked_on.BlockedOn.{BlockedOn}
use Rattle.stage_moves.proofs.PlaceLemmas.{AllLater-then, AllLater-stay}
use Rattle.driver_turns.proofs.TurnLemmas.{WorkedTo-given, WorkedTo-looked, WorkedTo-then, Blocked-who, wanted-who, Halted-who, RangDues-step, RangDues-alone}
use Rattle.driver_turns.proofs.steps.work.Goals as goal

pub returns-then-again-room-clause-worked : goal.returns-then-again-room-clause-worked
returns-then-again-room-clause-worked g c = λ _ Y given. WorkedTo-looked g.S.Operator _ _ _ _ _ Y _ _ _ _ _ (c.tell.ensures.rows Y given) ((c.in-Ok.ensures).went refl Y) ((c.in-Ok.ensures).counts refl Y)
    (λ below. omega (arith, (c.in-Ok.ensures).again.1 below, c.from.ensures))

pub returns-then-again-room-clause-later : goal.returns-then-again-room-clause-later
returns-then-again-room-clause-later g c = λ _. ((c.in-Ok.ensures).went refl []).later

pub returns-then-again-room-clause-rang : goal.returns-then-again-room-clause-rang
returns-then-again-room-clause-rang g c = λ _. RangDues-alone (g.B.Bells.rang c.args.bells.now) (g.B.Bells.rang c.look_ahead.new.bells) (g.I.PageSource.dues c.args.source.now) (g.I.PageSource.dues c.look_ahead.new.source) (g.I.PageSource.dues c.look_ahead.new.source)
    (g.T.PageTarget.dues c.args.target.now) (g.T.PageTarget.dues c.tell.new.target) ((c.in-Ok.ensures).rang refl) (λ bell. refl) c.tell.ensures.dues

pub returns-in-Err-outcome-clause-worked : goal.returns-in-Err-outcome-clause-worked
returns-in-Err-outcome-clause-worked g c = λ ok Y given. WorkedTo-then g.S.Operator _ _ _ _ _ _ _ _ Y _ _ _ _ _ _ c.in-Ok.ahead.again c.move_on-units.result.units _
    (WorkedTo-looked g.S.Operator _ _ _ _ _ Y _ _ _ _ _ given ((c.in-Ok.ensures).went refl Y) ((c.in-Ok.ensures).counts refl Y) (c.in-Ok.ensures).again.1)
    (c.move_on-units.ensures.worked (subst NotMemory (sym c.in-Err-outcome.is) ok)) (omega (arith, c.move_on-units.ensures.misses)) (omega (arith, c.from-2.ensures))

pub returns-in-Err-outcome-clause-later : goal.returns-in-Err-outcome-clause-later
returns-in-Err-outcome-clause-later g c = λ ok. AllLater-then g.S.Operator _ _ _ ((c.in-Ok.ensures).went refl []).later
    (AllLater-stay g.S.Operator _ _ (c.move_on-units.ensures.same (subst NotMemory (sym c.in-Err-outcome.is) ok)))

pub returns-in-Err-outcome-clause-rang : goal.returns-in-Err-outcome-clause-rang
returns-in-Err-outcome-clause-rang g c = λ ok. RangDues-alone (g.B.Bells.rang c.args.bells.now) (g.B.Bells.rang c.look_ahead.new.bells) (g.I.PageSource.dues c.args.source.now) (g.I.PageSource.dues c.look_ahead.new.source) (g.I.PageSource.dues c.move_on-units.new.source)
    (g.T.PageTarget.dues c.args.target.now) (g.T.PageTarget.dues c.move_on-units.new.target) ((c.in-Ok.ensures).rang refl) c.move_on-units.ensures.source_dues
    (c.move_on-units.ensures.target_dues (subst NotMemory (sym c.in-Err-outcome.is) ok))

pub returns-then-units-gt0-clause-worked : goal.returns-then-units-gt0-clause-worked
returns-then-units-gt0-clause-worked g c = λ _ Y given. WorkedTo-given g.S.Operator _ _ _ _ _ _ Y _ _ _ _ _ ((c.in-Ok-ready.ensures).rows refl)
    (WorkedTo-then g.S.Operator _ _ _ _ _ _ _ _ Y _ _ _ _ _ _ c.in-Ok.ahead.again c.move_on-units.result.units _
    (WorkedTo-looked g.S.Operator _ _ _ _ _ Y _ _ _ _ _ given ((c.in-Ok.ensures).went refl Y) ((c.in-Ok.ensures).counts refl Y) (c.in-Ok.ensures).again.1)
    (c.move_on-units.ensures.worked (subst NotMemory (sym c.in-Ok-outcome.is) tt)) (omega (arith, c.move_on-units.ensures.misses)) (omega (arith, c.from-2.ensures)))

pub returns-then-units-gt0-clause-later : goal.returns-then-units-gt0-clause-later
returns-then-units-gt0-clause-later g c = λ _. AllLater-then g.S.Operator _ _ _ ((c.in-Ok.ensures).went refl []).later (AllLater-stay g.S.Operator _ _ (c.move_on-units.ensures.same (subst NotMemory (sym c.in-Ok-outcome.is) tt)))

pub returns-then-units-gt0-clause-rang : goal.returns-then-units-gt0-clause-rang
returns-then-units-gt0-clause-rang g c = λ _. RangDues-step (g.B.Bells.rang c.args.bells.now) (g.B.Bells.rang c.look_ahead.new.bells) (g.B.Bells.rang c.ready.new.bells) (g.I.PageSource.dues c.args.source.now) (g.I.PageSource.dues c.look_ahead.new.source) (g.I.PageSource.dues c.move_on-units.new.source)
    (g.T.PageTarget.dues c.args.target.now) (g.T.PageTarget.dues c.move_on-units.new.target) (g.T.PageTarget.dues c.ready.new.self) ((c.in-Ok.ensures).rang refl) ((c.in-Ok-ready.ensures).rang refl)
    c.move_on-units.ensures.source_dues (c.move_on-units.ensures.target_dues (subst NotMemory (sym c.in-Ok-outcome.is) tt))

pub returns-clause-worked : goal.returns-clause-worked
returns-clause-worked g c = λ _ Y given. WorkedTo-given g.S.Operator _ _ _ _ _ _ Y _ _ _ _ _ ((c.in-Ok-ready.ensures).rows refl)
    (WorkedTo-then g.S.Operator _ _ _ _ _ _ _ _ Y _ _ _ _ _ _ c.in-Ok.ahead.again c.move_on-units.result.units _
    (WorkedTo-looked g.S.Operator _ _ _ _ _ Y _ _ _ _ _ given ((c.in-Ok.ensures).went refl Y) ((c.in-Ok.ensures).counts refl Y) (c.in-Ok.ensures).again.1)
    (c.move_on-units.ensures.worked (subst NotMemory (sym c.in-Ok-outcome.is) tt)) (omega (arith, c.move_on-units.ensures.misses)) (omega (arith, c.from-2.ensures, c.if-units-gt0.false)))

pub returns-clause-later : goal.returns-clause-later
returns-clause-later g c = λ _. AllLater-then g.S.Operator _ _ _ ((c.in-Ok.ensures).went refl []).later (AllLater-stay g.S.Operator _ _ (c.move_on-units.ensures.same (subst NotMemory (sym c.in-Ok-outcome.is) tt)))

pub returns-clause-rang : goal.returns-clause-rang
returns-clause-rang g c = λ _. RangDues-step (g.B.Bells.rang c.args.bells.now) (g.B.Bells.rang c.look_ahead.new.bells) (g.B.Bells.rang c.ready.new.bells) (g.I.PageSource.dues c.args.source.now) (g.I.PageSource.dues c.look_ahead.new.source) (g.I.PageSource.dues c.move_on-units.new.source)
    (g.T.PageTarget.dues c.args.target.now) (g.T.PageTarget.dues c.move_on-units.new.target) (g.T.PageTarget.dues c.ready.new.self) ((c.in-Ok.ensures).rang refl) ((c.in-Ok-ready.ensures).rang refl)
    c.move_on-units.ensures.source_dues (c.move_on-units.ensures.target_dues (subst NotMemory (sym c.in-Ok-outcome.is) tt))

pub returns-clause-blocked : goal.returns-clause-blocked
returns-clause-blocked g c = Blocked-who g.S.Operator c.args.stages.now.items c.look_ahead.new.stages.items c.move_on-units.new.stages.items c.is_told.result c.wants-wanted.result (g.T.PageTarget.is_told c.ready.new.self)
    (g.I.PageSource.looks c.args.source.now) (g.I.PageSource.looks c.look_ahead.new.source) (g.I.PageSource.looks c.move_on-units.new.source) (g.T.PageTarget.looks c.args.target.now)
    (g.T.PageTarget.looks c.move_on-units.new.target) (g.T.PageTarget.looks c.ready.new.self) (g.B.Bells.shown c.look_ahead.new.bells) (g.B.Bells.shown c.ready.new.bells) c.in-Ok-ready.full c.in-Ok.ahead.waits c.who_waits-who.result _
    c.who_waits-who.ensures (c.move_on-units.ensures.same (subst NotMemory (sym c.in-Ok-outcome.is) tt)) c.move_on-units.ensures.source_looks c.move_on-units.ensures.target_looks c.is_told.ensures
    (c.in-Ok-ready.ensures).bells (c.in-Ok.ensures).waits (c.in-Ok-ready.ensures).answer

pub returns-clause-wanted : goal.returns-clause-wanted
returns-clause-wanted g c = wanted-who c.is_told.result c.wants-wanted.result (g.T.PageTarget.wants c.args.target.now) (g.T.PageTarget.looks c.args.target.now) (g.T.PageTarget.looks c.move_on-units.new.target)
    (g.T.PageTarget.looks c.ready.new.self) (g.B.Bells.shown c.ready.new.bells) c.in-Ok-ready.full c.in-Ok.ahead.waits c.who_waits-who.result _ c.who_waits-who.ensures c.move_on-units.ensures.target_looks c.wants-wanted.ensures
    (c.in-Ok-ready.ensures).answer

pub returns-clause-quiet : goal.returns-clause-quiet
returns-clause-quiet g c = Halted-who g.S.Operator c.move_on-units.new.stages.items (g.T.PageTarget.wants c.args.target.now) (g.T.PageTarget.looks c.args.target.now) (g.T.PageTarget.looks c.ready.new.self)
    (g.B.Bells.shown c.ready.new.bells) c.who_waits-who.result
    (c.move_on-units.ensures.quiet (subst (λ (r : Result (Option BlockedOn) OpFault). IsOk r) (sym c.in-Ok-outcome.is) refl) (omega (arith, c.from-2.ensures, c.if-units-gt0.false)))
    (wanted-who c.is_told.result c.wants-wanted.result (g.T.PageTarget.wants c.args.target.now) (g.T.PageTarget.looks c.args.target.now) (g.T.PageTarget.looks c.move_on-units.new.target)
    (g.T.PageTarget.looks c.ready.new.self) (g.B.Bells.shown c.ready.new.bells) c.in-Ok-ready.full c.in-Ok.ahead.waits c.who_waits-who.result _ c.who_waits-who.ensures c.move_on-units.ensures.target_looks c.wants-wanted.ensures
    (c.in-Ok-ready.ensures).answer)
