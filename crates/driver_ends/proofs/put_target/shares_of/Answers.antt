use Rattle.std.proofs.Common.{◌≡◌, ◌∙◌, map, sym, ap, subst, ⊎_elim}
use Rattle.std.specs.Prelude.{replicate}
use Rattle.std.proofs.lemmas.Result.{IfOk-weaker}
use Rattle.col_pages.specs.Pages.{TypedPage}
use Rattle.output_buffer.specs.Partitions.{parts_of}
use Rattle.driver_ends.specs.declared.put_target.PutKind.TheVariants.{One, Each}
use Rattle.driver_ends.specs.Targets.{FitsKind, sent_to}
use Rattle.driver_ends.proofs.TargetLemmas.{copies_sent, parts_sent}
use Rattle.driver_ends.proofs.put_target.shares_of.Goals as goal

pub returns-in_ok-copy-in-One : goal.returns-in_ok-copy-in-One
returns-in_ok-copy-in-One c =
    let n = c.args.outlets in
    let page = c.args.page.now in
    let kind = c.args.kind.now in
    IfOk-weaker c.copies_of.result _ (λ v. map (λ (p : TypedPage). p.rows) v.items ≡ sent_to kind n page.rows)
    (λ v is. copies_sent n page v.items (is ∙ ap (replicate n) c.in_ok-copy-in-One.ensures)
    ∙ sym (⊎_elim (λ (e : kind ≡ One). ap (λ k. sent_to k n page.rows) e) (λ (e : kind ≡ Each). ap (λ k. sent_to k n page.rows) e) c.in-One.is)) c.copies_of.ensures

pub returns-in-Hash : goal.returns-in-Hash
returns-in-Hash c =
    let n = c.args.outlets in
    let page = c.args.page.now in
    let kind = c.args.kind.now in
    let by = c.in-Hash.partitioner in
    let fits : n ≡ by.parts = subst (λ k. FitsKind k n) c.in-Hash.is c.requires in
    IfOk-weaker c.split.result (λ v. v.items ≡ parts_of by page) (λ v. map (λ (p : TypedPage). p.rows) v.items ≡ sent_to kind n page.rows)
    (λ v is. parts_sent by n page v.items fits is ∙ ap (λ k. sent_to k n page.rows) (sym c.in-Hash.is)) c.split.ensures.pages
