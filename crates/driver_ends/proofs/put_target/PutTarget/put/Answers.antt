use Rattle.std.proofs.Common.{◌≡◌, ◌∙◌, ◌++◌, None, length, map, arith, refl, sym, ap, subst}
use Rattle.std.specs.Prelude.{All}
use Rattle.std.specs.Vec.{with_items}
use Rattle.std.proofs.lemmas.List.{length-map, with_items_is}
use Rattle.col_pages.specs.Pages.{TypedPage}
use Rattle.output_buffer.specs.Edges.{end_count}
use Rattle.output_buffer.specs.Seats.{GatherPutState}
use Rattle.driver_ends.specs.InTarget.{target_view}
use Rattle.driver_ends.specs.Outlets.{OutletInOrder, OutletState, rows_sent}
use Rattle.driver_ends.specs.Targets.{FitsKind, HasSent, TargetState, may_wait, add_each, sent_to}
use Rattle.driver_ends.proofs.TargetLemmas.{each_same, length_same, holds_more, length_sent}
use Rattle.driver_ends.proofs.put_target.PutTarget.put.Goals as goal

pub hold_all-requires-clause-each : goal.hold_all-requires-clause-each
hold_all-requires-clause-each c =
    let pages = c.in_ok-pages.pages in
    let many : length pages.items ≡ c.len-2.result = sym (length-map pages.items (λ (p : TypedPage). p.rows)) ∙ ap length c.in_ok-pages.ensures ∙ length_sent c.self.inside.kind c.len-2.result c.args.page.rows in
    omega (arith, many, c.len-2.ensures, c.self.inside.outlets.ok.0, ap length c.deref_mut.ensures.value)

pub invariant_of-self : goal.invariant_of-self
invariant_of-self c =
    let t = c.self.inside in
    let new = c.hold_all.new.outlets in
    let seats : map (λ (l : OutletState). l.seat) new ≡ map (λ (l : OutletState). l.seat) t.outlets.items = c.hold_all.ensures.seats ∙ ap (map (λ (l : OutletState). l.seat)) c.deref_mut.ensures.value in
    let long : length new ≡ length t.outlets.items = length_same (λ (l : OutletState). l.seat) new t.outlets.items seats in
    let is : (with_items t.outlets new).items ≡ new = with_items_is t.outlets new (omega (arith, long, t.outlets.ok.0)) in
    record {
      fits = subst (λ outlets. FitsKind t.kind (length outlets)) (sym is) (subst (FitsKind t.kind) (sym long) c.self.invariant.fits);
      waits = λ none. c.self.invariant.waits (ap (may_wait t.kind) (sym long ∙ sym (ap length is)) ∙ none);
      early = λ told. subst (All (λ (l : OutletState). end_count l.seat.put ≡ 0)) (sym is) (λ k d less.
          ap (λ (s : GatherPutState). end_count s.put) (each_same (λ (l : OutletState). l.seat) new t.outlets.items seats k d) ∙ c.self.invariant.early told k d (omega (arith, less, long)));
      order = subst (All OutletInOrder) (sym is) c.hold_all.ensures.order;
      none = c.self.invariant.none;
      room = omega (arith, ap length is, long, c.self.invariant.room);
    }

pub returns-clause-sent : goal.returns-clause-sent
returns-clause-sent c given sent =
    let t = c.self.inside in
    let new = c.hold_all.new.outlets in
    let pages = c.in_ok-pages.pages in
    let seats : map (λ (l : OutletState). l.seat) new ≡ map (λ (l : OutletState). l.seat) t.outlets.items = c.hold_all.ensures.seats ∙ ap (map (λ (l : OutletState). l.seat)) c.deref_mut.ensures.value in
    let long : length new ≡ length t.outlets.items = length_same (λ (l : OutletState). l.seat) new t.outlets.items seats in
    let is : (with_items t.outlets new).items ≡ new = with_items_is t.outlets new (omega (arith, long, t.outlets.ok.0)) in
    let count : c.len-2.result ≡ length t.outlets.items = omega (arith, c.len-2.ensures, t.outlets.ok.0) in
    let parts : map (λ (p : TypedPage). p.rows) pages.items ≡ sent_to t.kind (length t.outlets.items) c.args.page.rows = c.in_ok-pages.ensures ∙ ap (λ n. sent_to t.kind n c.args.page.rows) count in
    let holds : map rows_sent new ≡ add_each (map rows_sent t.outlets.items) (sent_to t.kind (length t.outlets.items) c.args.page.rows) =
    c.hold_all.ensures.sent ∙ (λ i. add_each (map rows_sent (c.deref_mut.ensures.value i)) (parts i)) in
    let after : TargetState = record { kind = t.kind; outlets = new; waiting = t.waiting; is_told = t.is_told } in
    let asked : c.len.result ≡ length t.outlets.items = omega (arith, c.len.ensures, t.outlets.ok.0) in
    let none : t.waiting ≡ None = c.self.invariant.waits (ap (may_wait t.kind) (sym asked) ∙ sym c.may_wait.ensures ∙ c.if-may_wait.false) in
    subst (λ outlets. HasSent (record { kind = t.kind; outlets = outlets; waiting = t.waiting; is_told = t.is_told }) (given ++ c.args.page.rows)) (sym is)
    (holds_more (target_view t) after given c.args.page.rows holds long refl none none (subst (λ (s : TargetState). HasSent s given) (sym c.self.view_is) sent))
