use Rattle.std.proofs.Common.{[], rules, sym, subst, ◌≡◌, ◌-◌, ◌≤◌, ap, arith}
use Rattle.crossbeam_queue.specs.Passes.{view}
use Rattle.output_buffer.specs.declared.edge.EdgeView.{EdgeView}
use Rattle.output_buffer.specs.Edges.{PagesThenEnds, all_parts, edge_view, end_count, with_put}
use Rattle.output_buffer.specs.InSpread.{spread_put_view}
use Rattle.output_buffer.specs.Seats.{MaySpread, SpreadPutState}
use Rattle.output_buffer.proofs.EdgeLemmas.{puts, stands}
use Rattle.output_buffer.proofs.SeatLemmas.{ends_of_spread, may_spread_pages, order_of_spread, view_with_put}
use Rattle.output_buffer.proofs.spread_put.SpreadPut.put.Goals as goal

pub push_as-requires-clause-rule : goal.push_as-requires-clause-rule
push_as-requires-clause-rule g c =
    let i = c.self.invariant in
    let parts : (view c.self.inside.pass).parts ≡ all_parts - c.self.inside.takers = ap (λ (v : EdgeView). v.parts) i.rest in
    let putting = ap (λ (v : EdgeView). v.putting) i.rest in
    let same : end_count (view c.self.inside.pass).put ≡ end_count c.args.self.now.put = ap (λ (s : SpreadPutState). end_count s.put) c.self.view_is in
    (puts _ _ _ _ (omega (arith, parts, i.few)) (omega (arith, may_spread_pages c.args.self.now c.args.piece c.requires.may, same, putting)), stands _ _)

pub invariant_of-self : goal.invariant_of-self
invariant_of-self g c =
    let i = c.self.invariant in
    let old = view c.self.inside.pass in
    let is : view c.push_as.new.pass ≡ with_put old c.args.piece = c.in-Ok.ensures.rule in
    let may : MaySpread (spread_put_view c.self.inside) c.args.piece = subst (λ (s : SpreadPutState). MaySpread s c.args.piece) (sym c.self.view_is) c.requires.may in
    record {
      of = search rules;
      some = search rules;
      few = search rules;
      rest = subst (λ (v : EdgeView). v ≡ edge_view (all_parts - c.self.inside.takers) (1 - end_count v.put) v.put []) (sym is) (view_with_put old c.args.piece (all_parts - c.self.inside.takers) i.rest);
      most = subst (λ (v : EdgeView). end_count v.put ≤ c.self.inside.takers) (sym is) (ends_of_spread (spread_put_view c.self.inside) c.args.piece may);
      order = subst (λ (v : EdgeView). PagesThenEnds v.put) (sym is) (order_of_spread (spread_put_view c.self.inside) c.args.piece may i.order);
    }

pub returns-in-Err-clause-full : goal.returns-in-Err-clause-full
returns-in-Err-clause-full c = search rules
