use Rattle.std.proofs.Common.{◌≡◌, ◌<◌, List, [], ◌++◌, false, ap, append-nil, arith, inl, subst, sym, ◌∙◌}
use Rattle.std.proofs.lemmas.List.{nil_from_length}
use Rattle.sql_values.specs.declared.value.Value.{Value}
use Rattle.sql_values.specs.declared.order.KeySpec.{KeySpec}
use Rattle.topn_sort.specs.Sorting.{AreCandidates, BufferState, TopGives, TopState}
use Rattle.topn_sort.proofs.TopLemmas.{top-none, top-took}
use Rattle.topn_sort.proofs.topn.TopRowsKernel.take_in.Goals as goal

pub returns-then-self-eq0-clause-gives : goal.returns-then-self-eq0-clause-gives
returns-then-self-eq0-clause-gives c = λ _ X B g.
    let now = c.args.self.now in
    let none : now.count ≡ 0 = sym (ap (λ (t : TopState). t.count) c.self.view_is) ∙ c.if-self-eq0.true in
    top-none now.buffer.keys now.buffer.begun now.count now.buffer.rows c.args.page.rows X B c.requires.unbegun none g

pub returns-in_ok-add_first-clause-gives : goal.returns-in_ok-add_first-clause-gives
returns-in_ok-add_first-clause-gives c = λ _ X B g.
    let s = c.self.inside in
    let new = c.add_first.new.self in
    let idle : s.buffer.begun ≡ false = ap (λ (t : TopState). t.buffer.begun) c.self.view_is ∙ c.requires.unbegun in
    let still : new.begun ≡ false = ap (λ (b : BufferState). b.begun) c.add_first.ensures.same ∙ idle in
    let keys : new.keys ≡ s.buffer.keys = ap (λ (b : BufferState). b.keys) c.add_first.ensures.same in
    let some : 0 < s.count = omega (arith, c.if-self-eq0.false) in
    let from : AreCandidates s.buffer.keys s.count s.buffer.rows c.args.page.rows c.in_ok-rows.rows.rows
    = subst (λ (t : TopState). AreCandidates t.buffer.keys t.count t.buffer.rows c.args.page.rows c.in_ok-rows.rows.rows) (sym c.self.view_is) c.in_ok-rows.ensures.rows in
    subst (λ (t : TopState). TopGives t.buffer.begun t.buffer.keys t.count t.buffer.rows (c.args.page.rows ++ X) B) c.self.view_is
    (top-took s.buffer.keys s.buffer.begun new.begun s.count s.buffer.rows c.args.page.rows c.in_ok-rows.rows.rows new.rows X B idle still some
    (c.self.invariant.ordered idle) from c.in_ok-add_first.ensures.ok
    (subst (λ (ks : List KeySpec). TopGives new.begun ks s.count new.rows X B) keys g))

pub returns-else-len-gt0-clause-gives : goal.returns-else-len-gt0-clause-gives
returns-else-len-gt0-clause-gives c = λ _ X B g.
    let s = c.self.inside in
    let idle : s.buffer.begun ≡ false = ap (λ (t : TopState). t.buffer.begun) c.self.view_is ∙ c.requires.unbegun in
    let some : 0 < s.count = omega (arith, c.if-self-eq0.false) in
    let from : AreCandidates s.buffer.keys s.count s.buffer.rows c.args.page.rows c.in_ok-rows.rows.rows
    = subst (λ (t : TopState). AreCandidates t.buffer.keys t.count t.buffer.rows c.args.page.rows c.in_ok-rows.rows.rows) (sym c.self.view_is) c.in_ok-rows.ensures.rows in
    let none : c.in_ok-rows.rows.rows ≡ [] = nil_from_length c.in_ok-rows.rows.rows (omega (arith, c.len.ensures, c.if-len-gt0.false)) in
    let same : s.buffer.rows ≡ s.buffer.rows ++ c.in_ok-rows.rows.rows = sym (ap (λ (v : List (List Value)). s.buffer.rows ++ v) none ∙ append-nil s.buffer.rows) in
    let here : TopGives s.buffer.begun s.buffer.keys s.count s.buffer.rows X B
    = subst (λ (t : TopState). TopGives t.buffer.begun t.buffer.keys t.count t.buffer.rows X B) (sym c.self.view_is) g in
    subst (λ (t : TopState). TopGives t.buffer.begun t.buffer.keys t.count t.buffer.rows (c.args.page.rows ++ X) B) c.self.view_is
    (top-took s.buffer.keys s.buffer.begun s.buffer.begun s.count s.buffer.rows c.args.page.rows c.in_ok-rows.rows.rows s.buffer.rows X B idle idle some
    (c.self.invariant.ordered idle) from (inl same) here)
