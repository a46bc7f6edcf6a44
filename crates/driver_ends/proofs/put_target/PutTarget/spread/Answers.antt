use Rattle.std.proofs.Common.{◌≡◌, ◌∙◌, length, map, arith, refl, sym, ap, subst}
use Rattle.std.specs.Prelude.{All}
use Rattle.std.specs.Vec.{with_items}
use Rattle.std.proofs.lemmas.List.{length-map, with_items_is}
use Rattle.col_pages.specs.Pages.{TypedPage}
use Rattle.output_buffer.specs.Edges.{end_count}
use Rattle.output_buffer.specs.Seats.{GatherPutState}
use Rattle.driver_ends.specs.InTarget.{target_view}
use Rattle.driver_ends.specs.Outlets.{OutletInOrder, OutletState, rows_of_held, rows_sent}
use Rattle.driver_ends.specs.Targets.{FitsKind, HasSent, TargetState, add_each, sent_to}
use Rattle.driver_ends.proofs.TargetLemmas.{each_same, length_same, length_sent, no_end, spreads_all}
use Rattle.driver_ends.proofs.put_target.PutTarget.spread.Goals as goal

pub hold_all-requires-clause-each : goal.hold_all-requires-clause-each
hold_all-requires-clause-each c =
    let pages = c.in_ok-pages.pages in
    let many : length pages.items ≡ c.len.result = sym (length-map pages.items (λ (p : TypedPage). p.rows)) ∙ ap length c.in_ok-pages.ensures ∙ length_sent c.self.inside.kind c.len.result c.in-Some.page.rows in
    omega (arith, many, c.len.ensures, c.self.inside.outlets.ok.0, ap length c.deref_mut.ensures.value)

pub invariant_of-self : goal.invariant_of-self
invariant_of-self c =
    let t = c.self.inside in
    let new = c.hold_all.new.outlets in
    let pages = c.in_ok-pages.pages in
    let seats : map (λ (l : OutletState). l.seat) new ≡ map (λ (l : OutletState). l.seat) t.outlets.items = c.hold_all.ensures.seats ∙ ap (map (λ (l : OutletState). l.seat)) c.deref_mut.ensures.value in
    let long : length new ≡ length t.outlets.items = length_same (λ (l : OutletState). l.seat) new t.outlets.items seats in
    let is : (with_items t.outlets new).items ≡ new = with_items_is t.outlets new (omega (arith, long, t.outlets.ok.0)) in
    let going : All (λ (l : OutletState). end_count l.seat.put ≡ 0) new = λ k d less.
    ap (λ (s : GatherPutState). end_count s.put) (each_same (λ (l : OutletState). l.seat) new t.outlets.items seats k d)
    ∙ c.self.invariant.early (no_end t.is_told t.waiting c.in-Some.page c.in-Some.is) k d (omega (arith, less, long)) in
    record {
      fits = subst (λ outlets. FitsKind t.kind (length outlets)) (sym is) (subst (FitsKind t.kind) (sym long) c.self.invariant.fits);
      waits = λ is. c.take.ensures.after;
      early = λ told. subst (All (λ (l : OutletState). end_count l.seat.put ≡ 0)) (sym is) going;
      order = subst (All OutletInOrder) (sym is) c.hold_all.ensures.order;
      none = c.self.invariant.none;
      room = omega (arith, ap length is, long, c.self.invariant.room);
    }

pub returns-in_ok-pages-clause-sent : goal.returns-in_ok-pages-clause-sent
returns-in_ok-pages-clause-sent c given sent =
    let t = c.self.inside in
    let new = c.hold_all.new.outlets in
    let pages = c.in_ok-pages.pages in
    let seats : map (λ (l : OutletState). l.seat) new ≡ map (λ (l : OutletState). l.seat) t.outlets.items = c.hold_all.ensures.seats ∙ ap (map (λ (l : OutletState). l.seat)) c.deref_mut.ensures.value in
    let long : length new ≡ length t.outlets.items = length_same (λ (l : OutletState). l.seat) new t.outlets.items seats in
    let is : (with_items t.outlets new).items ≡ new = with_items_is t.outlets new (omega (arith, long, t.outlets.ok.0)) in
    let count : c.len.result ≡ length t.outlets.items = omega (arith, c.len.ensures, t.outlets.ok.0) in
    let waits : rows_of_held t.waiting ≡ c.in-Some.page.rows = ap rows_of_held c.in-Some.is in
    let parts : map (λ (p : TypedPage). p.rows) pages.items ≡ sent_to t.kind (length t.outlets.items) (rows_of_held t.waiting) =
    c.in_ok-pages.ensures ∙ (λ i. sent_to t.kind (count i) (sym waits i)) in
    let holds : map rows_sent new ≡ add_each (map rows_sent t.outlets.items) (sent_to t.kind (length t.outlets.items) (rows_of_held t.waiting)) =
    c.hold_all.ensures.sent ∙ (λ i. add_each (map rows_sent (c.deref_mut.ensures.value i)) (parts i)) in
    let left = c.take.new.self in
    let after : TargetState = record { kind = t.kind; outlets = new; waiting = left; is_told = t.is_told } in
    subst (λ outlets. HasSent (record { kind = t.kind; outlets = outlets; waiting = left; is_told = t.is_told }) given) (sym is)
    (spreads_all (target_view t) after given holds long refl c.take.ensures.after (subst (λ (s : TargetState). HasSent s given) (sym c.self.view_is) sent))
