use Rattle.std.proofs.Common.{◌≡◌, ◌-◌, ◌++◌, ◌&&◌, Bool, true, false, length, take, refl, ap, ◌∙◌, arith}
use Rattle.std.specs.Prelude.{min, unwrap_or}
use Rattle.col_pages.specs.Pages.{TypedPage}
use Rattle.operator_examples.specs.NoteLaws.{limit-took}
use Rattle.operator_examples.proofs.noted_limit.NotedLimitOperator.add_input.Goals as goal

first_true : (a b : Bool) → (a && b) ≡ true → a ≡ true
first_true true b e = refl
first_true false b e = cc

pub returns-clause-gives : goal.returns-clause-gives
returns-clause-gives c = λ _ X B g.
    let s = c.args.self.now in
    let taken : c.min-taken.result ≡ min (unwrap_or s.note.known 0 - s.passed) (length c.args.page.rows) = omega arith in
    let first : c.push.new.self ≡ s.held ++ take (c.min-taken.result - 0) c.args.page.rows =
    c.in_ok-push.ensures.ok ∙ ap (λ (p : TypedPage). s.held ++ p.rows) c.in_ok-slice.ensures in
    limit-took s.note.known s.passed c.min-taken.result s.held _ c.args.page.rows X B (first_true _ _ c.requires.needs) taken first g
