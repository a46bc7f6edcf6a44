use Rattle.std.proofs.Common.{rules, [], ◌∷◌, ◌++◌, Some, ◌≡◌, All, ◌∙◌, ap, sym, subst}
use Rattle.std.proofs.lemmas.List.Elements.{All-nil, All-pop, All-push}
use Rattle.output_buffer.specs.Edges.{end_count}
use Rattle.output_buffer.specs.Seats.{AreGatherPutsOf, GatherPutState, GatherTakeState}
use Rattle.edge_tests.specs.declared.threads.Gathered.{Gathered}
use Rattle.output_buffer.proofs.SeatLemmas.{new_gather_puts_are_new, new_gather_puts_are_of}
use Rattle.edge_tests.proofs.threads.run_gather.Goals as goal

pub join-puts-requires-after_bounds : goal.join-puts-requires-after_bounds
join-puts-requires-after_bounds g c κs within =
    let new = subst (All (λ (s : GatherPutState). end_count s.put ≡ 0)) (sym c.in_ok-puts.ensures.puts) (new_gather_puts_are_new c.args.edge.now.edge c.args.edge.now.putters) in
    search (rules, new)

pub settle-requires : goal.settle-requires
settle-requires g c =
    let e = c.args.edge.now.edge in
    let take = c.in_ok-puts.take in
    let all = subst (AreGatherPutsOf e) (sym c.in_ok-puts.ensures.puts) (new_gather_puts_are_of e c.args.edge.now.putters) in
    let puts : AreGatherPutsOf e c.in_ok-puts-2.puts.items = search (rules, c.join-puts.ensures.first e all) in
    let pushed : c.push.new.self.items ≡ take ∷ [] = c.in_ok-push.ensures.items ∙ ap (λ xs. xs ++ take ∷ []) c.new-takes.ensures.items in
    let one = subst (All (λ (s : GatherTakeState). s.edge ≡ e)) (sym pushed) (All-push (λ (s : GatherTakeState). s.edge ≡ e) [] take (All-nil (λ (s : GatherTakeState). s.edge ≡ e)) (ap (λ (s : GatherTakeState). s.edge) c.in_ok-puts.ensures.take)) in
    let taken : All (λ (t : Gathered). t.take.edge ≡ e) c.in_ok-gathered.gathered.items = search (rules, c.join-puts.ensures.second e one) in
    let last = (All-pop (λ (t : Gathered). t.take.edge ≡ e) c.in_ok-gathered.gathered.items c.pop.new.self.items (Some c.in-Some.last) c.in-Some.ensures.items taken).1 in
    λ k d less. puts k d less ∙ sym last
