use Rattle.std.proofs.Common.{◌-◌, [], All, rules, sym, subst, ◌≡◌, ◌≤◌, ◌∙◌, ap, arith}
use Rattle.std.proofs.lemmas.List.Elements.{All-push}
use Rattle.crossbeam_queue.specs.Passes.{view}
use Rattle.output_buffer.specs.declared.edge.EdgeView.{EdgeView}
use Rattle.output_buffer.specs.Edges.{PagesThenEnds, edge_view, end_count, with_put}
use Rattle.output_buffer.specs.Seats.{GatherPutState, HasOwnNumber}
use Rattle.output_buffer.proofs.EdgeLemmas.{page_is_one, puts, stands}
use Rattle.output_buffer.proofs.SeatLemmas.{one_end, order_of_put, view_with_put}
use Rattle.output_buffer.proofs.gather_put.GatherPut.put.Goals as goal

pub push_as-requires-clause-rule : goal.push_as-requires-clause-rule
push_as-requires-clause-rule g c =
    let one : (view c.self.inside.pass).parts ≡ 1 = ap (λ (v : EdgeView). v.parts) c.self.invariant.one in
    let going : end_count (view c.self.inside.pass).put ≡ 0 = ap (λ (s : GatherPutState). end_count s.put) c.self.view_is ∙ c.requires.may.going in
    (puts _ _ _ _ (omega (arith, one)) (omega (arith, page_is_one c.args.piece, going, ap (λ (v : EdgeView). v.putting) c.self.invariant.one)), stands _ _)

pub invariant_of-self : goal.invariant_of-self
invariant_of-self g c =
    let i = c.self.invariant in
    let old = view c.self.inside.pass in
    let is : view c.push_as.new.pass ≡ with_put old c.args.piece = c.in-Ok.ensures.rule in
    let going : end_count old.put ≡ 0 = ap (λ (s : GatherPutState). end_count s.put) c.self.view_is ∙ c.requires.may.going in
    let own : HasOwnNumber c.self.inside.number c.args.piece = subst (λ (s : GatherPutState). HasOwnNumber s.number c.args.piece) (sym c.self.view_is) c.requires.may.own in
    record {
      of = search rules;
      one = subst (λ (v : EdgeView). v ≡ edge_view 1 (1 - end_count v.put) v.put []) (sym is) (view_with_put old c.args.piece 1 i.one);
      once = subst (λ (v : EdgeView). end_count v.put ≤ 1) (sym is) (one_end old.put c.args.piece going);
      order = subst (λ (v : EdgeView). PagesThenEnds v.put) (sym is) (order_of_put old.put c.args.piece going i.order);
      own = subst (λ (v : EdgeView). All (HasOwnNumber c.self.inside.number) v.put) (sym is) (All-push (HasOwnNumber c.self.inside.number) old.put c.args.piece i.own own);
    }
