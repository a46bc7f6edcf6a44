use Rattle.std.proofs.Common.{◌≡◌, ◌∙◌, List, length, map, arith, refl, sym, ap, subst}
use Rattle.std.specs.Prelude.{◌&&◌, All, IfOk, MatchOption, is_none}
use Rattle.std.specs.Vec.{with_items}
use Rattle.std.proofs.lemmas.List.{with_items_is}
use Rattle.output_buffer.specs.Edges.{end_count}
use Rattle.driver_ends.specs.InTarget.{target_view}
use Rattle.driver_ends.specs.Outlets.{IsThrough, OutletInOrder, OutletState, outlet_kept}
use Rattle.driver_ends.specs.Targets.{FitsKind, HasSent, HasStuckOutlet, HaveTried, TargetState, may_end, may_wait}
use Rattle.driver_ends.proofs.TargetLemmas.{kept_early, kept_given, length_same}
use Rattle.driver_ends.proofs.put_target.PutTargetEdgeEnd.advance.Goals as goal

pub invariant_of-self : goal.invariant_of-self
invariant_of-self g c =
    let t = c.self.inside in
    let new = c.advance_all.new.outlets in
    let ends = t.is_told && is_none t.waiting in
    let is_so : c.may_end-ends.result ≡ ends = c.may_end-ends.ensures in
    let kept : map (outlet_kept ends) new ≡ map (outlet_kept ends) t.outlets.items =
    subst (λ b. map (outlet_kept b) new ≡ map (outlet_kept b) t.outlets.items) is_so (c.advance_all.ensures.kept ∙ ap (map (outlet_kept c.may_end-ends.result)) c.deref_mut.ensures.value) in
    let long : length new ≡ length t.outlets.items = length_same (outlet_kept ends) new t.outlets.items kept in
    let is : (with_items t.outlets new).items ≡ new = with_items_is t.outlets new (omega (arith, long, t.outlets.ok.0)) in
    record {
      fits = subst (λ outlets. FitsKind t.kind (length outlets)) (sym is) (subst (FitsKind t.kind) (sym long) c.self.invariant.fits);
      waits = λ none. c.self.invariant.waits (ap (may_wait t.kind) (sym long ∙ sym (ap length is)) ∙ none);
      early = λ told. subst (All (λ (l : OutletState). end_count l.seat.put ≡ 0)) (sym is) (kept_early ends t.outlets.items new kept c.self.invariant.early told);
      order = subst (All OutletInOrder) (sym is) c.advance_all.ensures.order;
      none = c.self.invariant.none;
      room = omega (arith, ap length is, long, c.self.invariant.room);
    }

pub returns-clause-sent : goal.returns-clause-sent
returns-clause-sent g c given sent =
    let t = c.self.inside in
    let new = c.advance_all.new.outlets in
    let ends = t.is_told && is_none t.waiting in
    let is_so : c.may_end-ends.result ≡ ends = c.may_end-ends.ensures in
    let kept : map (outlet_kept ends) new ≡ map (outlet_kept ends) t.outlets.items =
    subst (λ b. map (outlet_kept b) new ≡ map (outlet_kept b) t.outlets.items) is_so (c.advance_all.ensures.kept ∙ ap (map (outlet_kept c.may_end-ends.result)) c.deref_mut.ensures.value) in
    let long : length new ≡ length t.outlets.items = length_same (outlet_kept ends) new t.outlets.items kept in
    let is : (with_items t.outlets new).items ≡ new = with_items_is t.outlets new (omega (arith, long, t.outlets.ok.0)) in
    let after : TargetState = record { kind = t.kind; outlets = new; waiting = t.waiting; is_told = t.is_told } in
    subst (λ outlets. HasSent (record { kind = t.kind; outlets = outlets; waiting = t.waiting; is_told = t.is_told }) given) (sym is)
    (kept_given ends (target_view t) after given refl refl kept (subst (λ (s : TargetState). HasSent s given) (sym c.self.view_is) sent))

pub returns-clause-tried : goal.returns-clause-tried
returns-clause-tried g c =
    let t = c.self.inside in
    let new = c.advance_all.new.outlets in
    let ends = t.is_told && is_none t.waiting in
    let is_so : c.may_end-ends.result ≡ ends = c.may_end-ends.ensures in
    let kept : map (outlet_kept ends) new ≡ map (outlet_kept ends) t.outlets.items =
    subst (λ b. map (outlet_kept b) new ≡ map (outlet_kept b) t.outlets.items) is_so (c.advance_all.ensures.kept ∙ ap (map (outlet_kept c.may_end-ends.result)) c.deref_mut.ensures.value) in
    let long : length new ≡ length t.outlets.items = length_same (outlet_kept ends) new t.outlets.items kept in
    let is : (with_items t.outlets new).items ≡ new = with_items_is t.outlets new (omega (arith, long, t.outlets.ok.0)) in
    let old : c.deref_mut.result.now ≡ c.args.self.now.outlets = c.deref_mut.ensures.value ∙ ap (λ (s : TargetState). s.outlets) c.self.view_is in
    subst (λ (outlets : List OutletState). IfOk c.advance_all.result (λ _. HaveTried ends c.args.self.now.outlets outlets)) (sym is)
    (subst (λ (outlets : List OutletState). IfOk c.advance_all.result (λ _. HaveTried ends outlets new)) old
    (subst (λ b. IfOk c.advance_all.result (λ _. HaveTried b c.deref_mut.result.now new)) is_so c.advance_all.ensures.tried))

pub returns-clause-kept : goal.returns-clause-kept
returns-clause-kept g c =
    let t = c.self.inside in
    let new = c.advance_all.new.outlets in
    let ends = t.is_told && is_none t.waiting in
    let is_so : c.may_end-ends.result ≡ ends = c.may_end-ends.ensures in
    let kept : map (outlet_kept ends) new ≡ map (outlet_kept ends) t.outlets.items =
    subst (λ b. map (outlet_kept b) new ≡ map (outlet_kept b) t.outlets.items) is_so (c.advance_all.ensures.kept ∙ ap (map (outlet_kept c.may_end-ends.result)) c.deref_mut.ensures.value) in
    let long : length new ≡ length t.outlets.items = length_same (outlet_kept ends) new t.outlets.items kept in
    let is : (with_items t.outlets new).items ≡ new = with_items_is t.outlets new (omega (arith, long, t.outlets.ok.0)) in
    subst (λ (s : TargetState). map (outlet_kept (may_end s)) (with_items t.outlets new).items ≡ map (outlet_kept (may_end s)) s.outlets) c.self.view_is (ap (map (outlet_kept ends)) is ∙ kept)

pub returns-clause-answer : goal.returns-clause-answer
returns-clause-answer g c =
    let t = c.self.inside in
    let new = c.advance_all.new.outlets in
    let ends = t.is_told && is_none t.waiting in
    let is_so : c.may_end-ends.result ≡ ends = c.may_end-ends.ensures in
    let kept : map (outlet_kept ends) new ≡ map (outlet_kept ends) t.outlets.items =
    subst (λ b. map (outlet_kept b) new ≡ map (outlet_kept b) t.outlets.items) is_so (c.advance_all.ensures.kept ∙ ap (map (outlet_kept c.may_end-ends.result)) c.deref_mut.ensures.value) in
    let long : length new ≡ length t.outlets.items = length_same (outlet_kept ends) new t.outlets.items kept in
    let is : (with_items t.outlets new).items ≡ new = with_items_is t.outlets new (omega (arith, long, t.outlets.ok.0)) in
    let old : c.deref_mut.result.now ≡ c.args.self.now.outlets = c.deref_mut.ensures.value ∙ ap (λ (s : TargetState). s.outlets) c.self.view_is in
    subst (λ (outlets : List OutletState). IfOk c.advance_all.result (λ on. MatchOption on (All (IsThrough ends) outlets)
    (λ on. HasStuckOutlet ends c.args.self.now.outlets outlets on × g.B.Bells.shown c.advance_all.new.bells on.bell on.seen))) (sym is)
    (subst (λ (outlets : List OutletState). IfOk c.advance_all.result (λ on. MatchOption on (All (IsThrough ends) new)
    (λ on. HasStuckOutlet ends outlets new on × g.B.Bells.shown c.advance_all.new.bells on.bell on.seen))) old
    (subst (λ b. IfOk c.advance_all.result (λ on. MatchOption on (All (IsThrough b) new)
    (λ on. HasStuckOutlet b c.deref_mut.result.now new on × g.B.Bells.shown c.advance_all.new.bells on.bell on.seen))) is_so c.advance_all.ensures.answer))
