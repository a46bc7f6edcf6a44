use Rattle.std.proofs.Common.{rules, ◌≡◌, [], ◌∷◌, ◌++◌, arith, ap, sym, subst, Some}
use Rattle.std.proofs.lemmas.List.Elements.{All-pop}
use Rattle.crossbeam_queue.specs.Passes.{view}
use Rattle.output_buffer.specs.declared.edge.EdgeView.{EdgeView}
use Rattle.output_buffer.specs.Edges.{together}
use Rattle.output_buffer.specs.Joined.{JoinedTakes}
use Rattle.output_buffer.specs.Seats.{SpreadTakeState, view_of_spread_take}
use Rattle.output_buffer.proofs.SeatLemmas.{joined_one_take, joined_no_take}
use Rattle.output_buffer.proofs.spread_stop.join_takes.Goals as goal

pub loop-seat-preserved : goal.loop-seat-preserved
loop-seat-preserved c =
    let i = c.loop-seat.invariant in
    let is : c.loop-seat.takes.items ≡ c.pop.new.self.items ++ c.in-Some.seat ∷ [] = c.in-Some.ensures.items in
    let joined : view c.join_take.new.pass ≡ together (view c.loop-seat.pass) (view_of_spread_take c.in-Some.seat) = c.join_take.ensures.joined in (
      c.join_take.ensures.pass,
      omega (arith, ap (λ (v : EdgeView). v.parts) joined),
      (All-pop (λ (s : SpreadTakeState). s.edge.queue ≡ c.args.queue.now.table.shared.table_id) c.loop-seat.takes.items c.pop.new.self.items (Some c.in-Some.seat) is i.2).0,
      λ after j. i.3 after (subst (λ xs. JoinedTakes (view c.loop-seat.pass) xs after) (sym is) (joined_one_take (view c.loop-seat.pass) c.pop.new.self.items c.in-Some.seat after (subst (λ v. JoinedTakes v c.pop.new.self.items after) joined j))),
    )

pub returns-clause-joined : goal.returns-clause-joined
returns-clause-joined c =
    let none : c.loop-seat.takes.items ≡ [] = search rules in
    c.loop-seat.invariant.3 (view c.loop-seat.pass) (subst (λ xs. JoinedTakes (view c.loop-seat.pass) xs (view c.loop-seat.pass)) (sym none) (joined_no_take (view c.loop-seat.pass)))
