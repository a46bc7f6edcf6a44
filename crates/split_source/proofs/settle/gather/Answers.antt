use Rattle.std.proofs.Common.{◌≡◌, [], ◌∷◌, ◌++◌, arith, ap, sym, ◌∙◌, subst}
use Rattle.split_source.specs.Gathered.{Joined, AreDrawn}
use Rattle.split_source.specs.Seats.{SeatState, ClaimsId, ends}
use Rattle.split_source.proofs.ClaimLemmas.{shows}
use Rattle.split_source.proofs.JoinLemmas.{all_drawn, last_of, is_drawn_by}
use Rattle.split_source.proofs.settle.gather.Goals as goal

pub load-requires : goal.load-requires
load-requires c =
    let i = c.last.invariant in
    let j = c.join_all.ensures in
    (j.place ∙ i.place, omega (arith, i.one_word), shows _ _ _ _ (omega (arith, j.joined.seats, i.one)))

pub returns-clause-drawn : goal.returns-clause-drawn
returns-clause-drawn c =
    let i = c.last.invariant in
    let is = c.last.view_is in
    let claims = c.requires.0 in
    let all = c.requires.1 in
    let whole : c.args.seats.items ≡ c.pop.new.self.items ++ c.in-Some.last ∷ [] = c.in-Some.ensures.items in
    let mine : c.in-Some.last.claims ≡ claims = last_of claims c.args.seats.items c.pop.new.self.items c.in-Some.last whole all.same in
    let first = is_drawn_by c.last.inside.pen.me.0 c.in-Some.last (i.of ∙ ap (λ (s : SeatState). s.claims.of) is) i.one (i.ended ∙ ap (λ (s : SeatState). ends s.is_ended) is) (ap (λ (s : SeatState). s.numbers) is) in
    let joined = subst (λ v. Joined v c.pop.new.self.items c.join_all.new.pen.me.0) first c.join_all.ensures.joined in
    let count : c.last.inside.count ≡ claims.of.count = i.count ∙ ap (λ (s : SeatState). s.claims.of.count) is ∙ ap (λ (k : ClaimsId). k.of.count) mine in
    subst (λ n. AreDrawn n c.args.seats.items) (sym count) (all_drawn claims c.args.seats.items c.pop.new.self.items c.in-Some.last c.join_all.new.pen.me.0 whole all mine joined c.load.ensures.2.1)
