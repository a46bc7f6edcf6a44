use Rattle.std.proofs.Common.{rules, ◌≡◌, [], ◌∷◌, ◌++◌, arith, ap, sym, subst, Some}
use Rattle.std.proofs.lemmas.List.Elements.{All-pop}
use Rattle.crossbeam_queue.specs.Passes.{view}
use Rattle.output_buffer.specs.declared.edge.EdgeView.{EdgeView}
use Rattle.output_buffer.specs.Edges.{together}
use Rattle.output_buffer.specs.Joined.{JoinedPuts}
use Rattle.output_buffer.specs.Seats.{GatherPutState, view_of_gather_put}
use Rattle.output_buffer.proofs.SeatLemmas.{joined_one, joined_none}
use Rattle.output_buffer.proofs.gather_stop.join_puts.Goals as goal

pub loop-seat-preserved : goal.loop-seat-preserved
loop-seat-preserved c =
    let i = c.loop-seat.invariant in
    let is : c.loop-seat.puts.items ≡ c.pop.new.self.items ++ c.in-Some.seat ∷ [] = c.in-Some.ensures.items in
    let joined : view c.join_put.new.pass ≡ together (view c.loop-seat.pass) (view_of_gather_put c.in-Some.seat) = c.join_put.ensures.joined in (
      c.join_put.ensures.pass,
      omega (arith, ap (λ (v : EdgeView). v.parts) joined),
      (All-pop (λ (s : GatherPutState). s.edge.queue ≡ c.args.queue.now.table.shared.table_id) c.loop-seat.puts.items c.pop.new.self.items (Some c.in-Some.seat) is i.2).0,
      λ after j. i.3 after (subst (λ xs. JoinedPuts (view c.loop-seat.pass) xs after) (sym is) (joined_one (view c.loop-seat.pass) c.pop.new.self.items c.in-Some.seat after c.join_put.ensures.once (subst (λ v. JoinedPuts v c.pop.new.self.items after) joined j))),
    )

pub returns-clause-joined : goal.returns-clause-joined
returns-clause-joined c =
    let none : c.loop-seat.puts.items ≡ [] = search rules in
    c.loop-seat.invariant.3 (view c.loop-seat.pass) (subst (λ xs. JoinedPuts (view c.loop-seat.pass) xs (view c.loop-seat.pass)) (sym none) (joined_none (view c.loop-seat.pass)))
