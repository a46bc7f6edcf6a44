use Rattle.std.proofs.Common.{◌≡◌, ◌∙◌, map, sym, ap, ⊎_elim}
use Rattle.std.proofs.lemmas.Result.{IfOk-weaker}
use Rattle.col_pages.specs.Pages.{TypedPage}
use Rattle.driver_ends.specs.declared.put_target.PutKind.TheVariants.{One, Each}
use Rattle.driver_ends.specs.Targets.{sent_to}
use Rattle.driver_ends.proofs.TargetLemmas.{copies_sent}
use Rattle.driver_ends.proofs.put_target.pages_for.Goals as goal

pub returns-in-One : goal.returns-in-One
returns-in-One c =
    let n = c.args.outlets in
    let page = c.args.page in
    let kind = c.args.kind.now in
    IfOk-weaker c.copies_of.result _ (λ v. map (λ (p : TypedPage). p.rows) v.items ≡ sent_to kind n page.rows)
    (λ v is. copies_sent n page v.items is ∙ sym (⊎_elim (λ (e : kind ≡ One). ap (λ k. sent_to k n page.rows) e) (λ (e : kind ≡ Each). ap (λ k. sent_to k n page.rows) e) c.in-One.is)) c.copies_of.ensures
