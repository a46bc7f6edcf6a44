use Rattle.std.proofs.Common.{◌≡◌, Option, Result, IsOk, true, false, refl, ap, sym, subst, arith}
use Rattle.operator_core.specs.Answers.{NotMemory, gave}
use Rattle.stage_moves.proofs.PassLemmas.{Passed-given, Passed-moved_on, none-out}
use Rattle.stage_moves.proofs.CountLemmas.{Counted-given, Counted-moved_on}
use Rattle.stage_moves.proofs.QuietLemmas.{Quiet-nil, goes-on, is-past, none-is}
use Rattle.col_pages.specs.Pages.{TypedPage}
use Rattle.operator_core.specs.declared.fault.OpFault.{OpFault}
use Rattle.stage_moves.proofs.one_pass.pass.Goals as goal

pub returns-then-not-goes_on-2-clause-passed : goal.returns-then-not-goes_on-2-clause-passed
returns-then-not-goes_on-2-clause-passed g c =
    let went = c.if-not-goes_on.ensures.0 refl in
    λ ok Y. Passed-moved_on g.S.Operator _ _ _ _ _ _ _ _ _ _ c.is_ended.ensures (ap gave went.0) (none-out _ c.move_pages-rows.ensures.out)
    (c.take_page-taken.ensures.passed (subst NotMemory (sym went.0) tt)) (λ Y. c.move_pages-rows.ensures.passed ok _ Y) Y

pub returns-then-not-goes_on-2-clause-counts : goal.returns-then-not-goes_on-2-clause-counts
returns-then-not-goes_on-2-clause-counts g c =
    let went = c.if-not-goes_on.ensures.0 refl in
    λ ok Y. Counted-moved_on g.S.Operator _ _ _ _ _ _ _ _ _ _ (ap gave went.0) (none-out _ c.move_pages-rows.ensures.out)
    (c.take_page-taken.ensures.counts (subst NotMemory (sym went.0) tt)) (λ Y. c.move_pages-rows.ensures.counts ok _ Y) refl Y

pub returns-clause-passed : goal.returns-clause-passed
returns-clause-passed g c =
    let went = c.if-not-goes_on.ensures.0 refl in
    let on = c.if-not-goes_on-2.ensures.0 refl in
    λ ok Y. Passed-given g.S.Operator _ c.move_pages-rows.new.stages.items _ _ _ (gave c.move_pages-rows.result.outcome) _ Y _ _ (ap gave on.0)
    (Passed-moved_on g.S.Operator _ _ _ _ _ _ _ _ _ _ c.is_ended.ensures (ap gave went.0) (none-out _ c.move_pages-rows.ensures.out)
    (c.take_page-taken.ensures.passed (subst NotMemory (sym went.0) tt)) (λ Y. c.move_pages-rows.ensures.passed (subst NotMemory (sym on.0) tt) _ Y) Y)
    (c.give_page-given.ensures.passed ok _ Y _)

pub returns-clause-counts : goal.returns-clause-counts
returns-clause-counts g c =
    let went = c.if-not-goes_on.ensures.0 refl in
    let on = c.if-not-goes_on-2.ensures.0 refl in
    λ ok Y. Counted-given g.S.Operator _ c.move_pages-rows.new.stages.items _ _ _ (gave c.move_pages-rows.result.outcome) _ Y _ _ _ (ap gave on.0)
    (Counted-moved_on g.S.Operator _ _ _ _ _ _ _ _ _ _ (ap gave went.0) (none-out _ c.move_pages-rows.ensures.out)
    (c.take_page-taken.ensures.counts (subst NotMemory (sym went.0) tt)) (λ Y. c.move_pages-rows.ensures.counts (subst NotMemory (sym on.0) tt) _ Y) refl Y)
    (c.give_page-given.ensures.counts ok _ Y) refl

pub returns-then-not-goes_on-clause-quiet : goal.returns-then-not-goes_on-clause-quiet
returns-then-not-goes_on-clause-quiet g c = λ room ok none. goes-on _ _ ok
    (λ is. absurd (let clash : false ≡ true = c.if-not-goes_on.ensures.1 (is, omega (arith, none, room)) in cc))
    (λ o page is some. Quiet-nil g.S.Operator _ _ (is-past _ o page _ is some c.take_page-taken.ensures.past))

pub returns-then-not-goes_on-2-clause-quiet : goal.returns-then-not-goes_on-2-clause-quiet
returns-then-not-goes_on-2-clause-quiet g c = λ room ok none.
    absurd (let clash : false ≡ true = c.if-not-goes_on-2.ensures.1 (none-is _ ok c.move_pages-rows.ensures.out, omega (arith, none, room)) in cc)

pub returns-clause-quiet : goal.returns-clause-quiet
returns-clause-quiet g c =
    let on = c.if-not-goes_on-2.ensures.0 refl in
    λ room ok none. c.give_page-given.ensures.quiet ok (omega (arith, none))
    (c.move_pages-rows.ensures.still (omega (arith, none, room)) (subst (λ (r : Result (Option TypedPage) OpFault). IsOk r) (sym on.0) refl) (omega (arith, none)))
