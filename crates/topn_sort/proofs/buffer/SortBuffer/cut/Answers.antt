use Rattle.std.proofs.Common.{◌≡◌, List, ap, subst, ◌∙◌}
use Rattle.sql_values.specs.declared.order.KeySpec.{KeySpec}
use Rattle.topn_sort.specs.Sorting.{AreTop, BufferState, IsCutTo}
use Rattle.topn_sort.proofs.BufferLemmas.{kept-are, kept-cut, kept-fit}
use Rattle.topn_sort.proofs.buffer.SortBuffer.cut.Goals as goal

pub returns-clause-fit : goal.returns-clause-fit
returns-clause-fit c =
    kept-fit c.args.rows c.in_ok-first.first c.deref-2.result.now c.in_ok-order.order.items c.args.count c.deref.result.now
    c.in_ok-first.ensures (c.deref-2.ensures.value ∙ c.truncate.ensures.items) c.requires.fit c.in_ok-order.ensures.within c.in_ok-order.ensures.sorted

pub returns-clause-cut : goal.returns-clause-cut
returns-clause-cut c =
    let keys : c.deref.result.now ≡ c.args.self.now.keys = c.deref.ensures.value ∙ ap (λ (b : BufferState). b.keys) c.self.view_is in
    subst (λ (ks : List KeySpec). IsCutTo ks c.args.count c.args.rows.rows c.in_ok-first.first.rows) keys
    (kept-cut c.args.rows c.in_ok-first.first c.deref-2.result.now c.in_ok-order.order.items c.args.count c.deref.result.now
    c.in_ok-first.ensures (c.deref-2.ensures.value ∙ c.truncate.ensures.items) c.requires.fit c.in_ok-order.ensures.within c.in_ok-order.ensures.sorted)

pub returns-clause-top : goal.returns-clause-top
returns-clause-top c =
    let keys : c.deref.result.now ≡ c.args.self.now.keys = c.deref.ensures.value ∙ ap (λ (b : BufferState). b.keys) c.self.view_is in
    subst (λ (ks : List KeySpec). AreTop ks c.args.count c.in_ok-first.first.rows) keys
    (kept-are c.args.rows c.in_ok-first.first c.deref-2.result.now c.in_ok-order.order.items c.args.count c.deref.result.now
    c.in_ok-first.ensures (c.deref-2.ensures.value ∙ c.truncate.ensures.items) c.requires.fit c.in_ok-order.ensures.within c.in_ok-order.ensures.sorted)
