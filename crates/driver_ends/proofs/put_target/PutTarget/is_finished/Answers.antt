use Rattle.std.proofs.Common.{◌≡◌, ◌∙◌, List, true, ap, sym, subst}
use Rattle.std.specs.Prelude.{All}
use Rattle.std.specs.Bool.{Decides, one_answer}
use Rattle.driver_ends.specs.Ends.{put_finished}
use Rattle.driver_ends.specs.Outlets.{IsThrough, OutletState}
use Rattle.driver_ends.specs.Targets.{TargetState, may_end}
use Rattle.driver_ends.proofs.EndLemmas.{finished_decides, finished_where}
use Rattle.driver_ends.proofs.put_target.PutTarget.is_finished.Goals as goal

pub returns-then-may_end-clause-finished : goal.returns-then-may_end-clause-finished
returns-then-may_end-clause-finished c =
    let t = c.args.self.now in
    let may : may_end t ≡ true = ap may_end (sym c.self.view_is) ∙ sym c.may_end.ensures ∙ c.if-may_end.true in
    let is : c.deref.result.now ≡ t.outlets = c.deref.ensures.value ∙ ap (λ (s : TargetState). s.outlets) c.self.view_is in
    finished_where t c.have_put_ends.result may (subst (λ (outlets : List OutletState). Decides c.have_put_ends.result (All (IsThrough true) outlets)) is c.have_put_ends.ensures)

pub returns-then-may_end-clause-is : goal.returns-then-may_end-clause-is
returns-then-may_end-clause-is c =
    one_answer c.have_put_ends.result (put_finished c.args.self.now) (returns-then-may_end-clause-finished c) (finished_decides c.args.self.now)
