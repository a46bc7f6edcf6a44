use Rattle.std.proofs.Common.{◌≡◌, ◌-◌, take, refl, sym, ◌∙◌, arith}
use Rattle.sql_values.specs.declared.fail.Fail.TheVariants.{BadCast}
use Rattle.operator_core.specs.declared.fault.OpFault.TheVariants.{Expr}
use Rattle.operator_examples.proofs.SampleLemmas.{took_all, took_some, fails-same, null-later, null-here}
use Rattle.operator_examples.proofs.not_null.NotNullOperator.add_input.Goals as goal

pub returns-in_ok-push-in-None-clause-gives : goal.returns-in_ok-push-in-None-clause-gives
returns-in_ok-push-in-None-clause-gives c = λ _ X B e.
    let s = c.args.self.now in
    took_all s.has_failed s.column s.held _ c.args.page.rows X B c.if-self.false c.in-None.ensures.0 c.in_ok-push-in-None.ensures.ok e

pub returns-in_ok-push-in-None-clause-fails : goal.returns-in_ok-push-in-None-clause-fails
returns-in_ok-push-in-None-clause-fails c = λ _ X node kind.
    let s = c.args.self.now in
    fails-same _ _ (null-later s.has_failed s.column c.args.page.rows X c.in-None.ensures.0)

pub returns-in_ok-push-in-Some-clause-gives : goal.returns-in_ok-push-in-Some-clause-gives
returns-in_ok-push-in-Some-clause-gives c = λ _ X B e.
    let s = c.args.self.now in
    let all : c.in-Some.place - 0 ≡ c.in-Some.place = omega arith in
    let first : c.in_ok-slice-in-Some.field-0.rows ≡ take c.in-Some.place c.args.page.rows = rw (c.in_ok-slice-in-Some.ensures, all) refl in
    took_some s.has_failed s.column s.held _ c.args.page.rows _ X B c.if-self.false c.in-Some.ensures.0 (c.in-Some.ensures.2 ∙ sym first) c.in_ok-push-in-Some.ensures.ok e

pub returns-in_ok-push-in-Some-clause-fails : goal.returns-in_ok-push-in-Some-clause-fails
returns-in_ok-push-in-Some-clause-fails c = λ _ X node kind.
    let s = c.args.self.now in
    fails-same _ _ (sym (null-here s.has_failed s.column c.args.page.rows X c.in-Some.ensures.0))

pub returns-in_ok-push-in-Some-clause-fault : goal.returns-in_ok-push-in-Some-clause-fault
returns-in_ok-push-in-Some-clause-fault c = λ node kind e X.
    let s = c.args.self.now in
    let same : Expr s.node BadCast ≡ Expr node kind = cc in
    (cc, cc, null-here s.has_failed s.column c.args.page.rows X c.in-Some.ensures.0)
