use Rattle.std.proofs.Common.{◌≡◌, ◌∙◌, map, sym, ap}
use Rattle.std.proofs.lemmas.Result.{IfOk-weaker}
use Rattle.std.specs.Prelude.{replicate}
use Rattle.col_pages.specs.Pages.{TypedPage}
use Rattle.output_buffer.specs.Partitions.{parts_of}
use Rattle.driver_ends.specs.declared.put_target.PutKind.TheVariants.{Hash}
use Rattle.driver_ends.specs.Targets.{sent_to}
use Rattle.driver_ends.proofs.TargetLemmas.{only_sent, parts_sent}
use Rattle.driver_ends.proofs.put_target.parts_of.Goals as goal

pub returns-then-outlets-eq1 : goal.returns-then-outlets-eq1
returns-then-outlets-eq1 c =
    let by = c.args.partitioner.now in
    let page = c.args.page in
    let one = c.if-outlets-eq1.true in
    IfOk-weaker c.copies_of.result (λ v. v.items ≡ replicate c.args.outlets page) (λ v. map (λ (p : TypedPage). p.rows) v.items ≡ sent_to (Hash by) c.args.outlets page.rows)
    (λ v is. only_sent by page v.items (sym c.requires ∙ one) (is ∙ ap (λ n. replicate n page) one) ∙ ap (λ n. sent_to (Hash by) n page.rows) (sym one)) c.copies_of.ensures

pub returns : goal.returns
returns c =
    let by = c.args.partitioner.now in
    let page = c.args.page in
    IfOk-weaker c.split.result (λ v. v.items ≡ parts_of by page) (λ v. map (λ (p : TypedPage). p.rows) v.items ≡ sent_to (Hash by) c.args.outlets page.rows)
    (λ v is. parts_sent by c.args.outlets page v.items c.requires is) c.split.ensures.pages
