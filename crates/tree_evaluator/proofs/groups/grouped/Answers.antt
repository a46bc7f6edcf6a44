use Rattle.std.proofs.Common.{◌≡◌, ◌∙◌, ap, length, sym}
use Rattle.aggregation.specs.Giving.{verdicts_with}
use Rattle.aggregation.specs.Held.{first_keys, first_partials}
use Rattle.aggregation.proofs.SingleLemmas.{verdicts-taken}
use Rattle.tree_evaluator.proofs.GroupLemmas.{made_told}
use Rattle.tree_evaluator.proofs.groups.grouped.Goals as goal

pub loop-page-init : goal.loop-page-init
loop-page-init c =
    let keys : c.in_ok-keys.keys.items ≡ c.args.keys.now = c.in_ok-keys.ensures.items in
    let calls : c.in_ok-calls.calls.items ≡ c.args.calls.now = c.in_ok-calls.ensures.items in
    let types : c.in_ok-types.types.items ≡ c.args.rows.types = c.in_ok-types.ensures.items ∙ c.types.ensures in
    made_told c.args.rows.types c.args.keys.now c.args.calls.now c.in_ok-table.table c.args.rows.rows
    (c.in_ok-table.ensures ∙ (λ i. record { columns = keys i; calls = calls i; types = types i; keys = first_keys (length (keys i)); partials = first_partials (length (keys i)) (calls i) }))

-- the rows of a page are taken, those behind it are left
pub loop-page-preserved : goal.loop-page-preserved
loop-page-preserved c =
    verdicts-taken c.loop-page.table c.add_page.new.self c.in_ok-add_page.ensures.same c.in-Some.page.rows c.take_first.new.self.rows c.in_ok-add_page.ensures.ok
    ∙ ap (verdicts_with c.loop-page.table) (sym c.in-Some.ensures.rows) ∙ c.loop-page.invariant
