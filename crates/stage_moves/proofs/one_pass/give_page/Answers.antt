use Rattle.std.proofs.Common.{rules, ◌≡◌, false, refl, sym, ◌∙◌}
use Rattle.stage_moves.proofs.PassLemmas.{Passed-still}
use Rattle.stage_moves.proofs.QuietLemmas.{Quiet-any, Quiet-unwanted}
use Rattle.stage_moves.proofs.one_pass.give_page.Goals as goal

pub returns-then-not-wants-clause-passed : goal.returns-then-not-wants-clause-passed
returns-then-not-wants-clause-passed g c = λ _ X Y ended. Passed-still g.S.Operator _ X X Y ended ended refl (λ e. e)

pub returns-then-not-wants-clause-quiet : goal.returns-then-not-wants-clause-quiet
returns-then-not-wants-clause-quiet g c = λ _ _ still.
    let none : c.args.wants ≡ false = search rules in
    Quiet-unwanted g.S.Operator c.args.stages.now.items c.args.wants none still

pub returns-clause-quiet : goal.returns-clause-quiet
returns-clause-quiet g c = λ ok none still. Quiet-any g.S.Operator _ c.args.wants (c.drain-outcome.ensures.quiet ok (sym c.out_len.ensures.len ∙ none) still)
