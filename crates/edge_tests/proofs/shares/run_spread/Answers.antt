use Rattle.std.proofs.Common.{rules, [], ◌∷◌, ◌++◌, Some, ◌≡◌, All, ◌∙◌, ap, refl, sym, subst}
use Rattle.std.proofs.lemmas.List.Elements.{All-nil, All-pop, All-push, All-replicate}
use Rattle.output_buffer.specs.Edges.{end_count}
use Rattle.output_buffer.specs.Seats.{AreSpreadTakesOf, SpreadPutState, SpreadTakeState, new_spread_take}
use Rattle.edge_tests.proofs.shares.run_spread.Goals as goal

pub join-puts-requires-after_bounds : goal.join-puts-requires-after_bounds
join-puts-requires-after_bounds g c κs within =
    let put = c.in_ok-put.put in
    let pushed : c.push.new.self.items ≡ put ∷ [] = c.in_ok-push.ensures.items ∙ ap (λ xs. xs ++ put ∷ []) c.new-puts.ensures.items in
    let one = subst (All (λ (s : SpreadPutState). end_count s.put ≡ 0)) (sym pushed) (All-push (λ (s : SpreadPutState). end_count s.put ≡ 0) [] put (All-nil (λ (s : SpreadPutState). end_count s.put ≡ 0)) (ap (λ (s : SpreadPutState). end_count s.put) c.in_ok-put.ensures.put)) in
    search (rules, one)

pub settle-requires : goal.settle-requires
settle-requires g c =
    let e = c.args.edge.now.edge in
    let put = c.in_ok-put.put in
    let all = subst (AreSpreadTakesOf e) (sym c.in_ok-put.ensures.takes) (All-replicate (λ (s : SpreadTakeState). s.edge ≡ e) c.args.edge.now.takers (new_spread_take e) refl) in
    let takes : AreSpreadTakesOf e c.in_ok-takes.takes.items = search (rules, c.join-puts.ensures.second e all) in
    let pushed : c.push.new.self.items ≡ put ∷ [] = c.in_ok-push.ensures.items ∙ ap (λ xs. xs ++ put ∷ []) c.new-puts.ensures.items in
    let one = subst (All (λ (s : SpreadPutState). s.edge ≡ e)) (sym pushed) (All-push (λ (s : SpreadPutState). s.edge ≡ e) [] put (All-nil (λ (s : SpreadPutState). s.edge ≡ e)) (ap (λ (s : SpreadPutState). s.edge) c.in_ok-put.ensures.put)) in
    let given : All (λ (s : SpreadPutState). s.edge ≡ e) c.in_ok-puts.puts.items = search (rules, c.join-puts.ensures.first e one) in
    let last = (All-pop (λ (s : SpreadPutState). s.edge ≡ e) c.in_ok-puts.puts.items c.pop.new.self.items (Some c.in-Some.put) c.in-Some.ensures.items given).1 in
    λ k d less. takes k d less ∙ sym last
