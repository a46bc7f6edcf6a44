use Rattle.std.proofs.Common.{◌≡◌, arith, ap, ◌∙◌}
use Rattle.split_source.specs.Claims.{together}
use Rattle.split_source.specs.Seats.{ClaimsId, SeatState, ends}
use Rattle.split_source.proofs.ClaimLemmas.{joins}
use Rattle.split_source.proofs.JoinLemmas.{is_drawn_by}
use Rattle.split_source.proofs.settle.join.Goals as goal

pub join_seat-requires : goal.join_seat-requires
join_seat-requires c =
    let i = c.seat.invariant in
    let mine : c.seat.inside.word.now.table_id ≡ c.args.word.now.table_id = ap (λ (s : SeatState). s.claims.table) c.seat.view_is ∙ ap (λ (k : ClaimsId). k.table) c.requires.seat in
    (c.requires.place.0, i.place ∙ mine, i.empty, omega (arith, c.requires.place.1), joins _ _ _ _ _ c.requires.pen.0)

pub returns-clause-joined : goal.returns-clause-joined
returns-clause-joined c =
    let i = c.seat.invariant in
    let is = c.seat.view_is in
    let same = is_drawn_by c.seat.inside.pen.me.0 c.args.seat (i.of ∙ ap (λ (s : SeatState). s.claims.of) is) i.one (i.ended ∙ ap (λ (s : SeatState). ends s.is_ended) is) (ap (λ (s : SeatState). s.numbers) is) in
    c.join_seat.ensures.2 ∙ (λ k. (together c.args.pen.now.me.0 (same k), c.requires.pen.1 k))
