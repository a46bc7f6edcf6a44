use Rattle.std.proofs.Common.{◌≡◌, arith, ap, ◌∙◌}
use Rattle.split_source.specs.Seats.{ends}
use Rattle.split_source.proofs.ClaimLemmas.{draws}
use Rattle.split_source.proofs.claim_seat.ClaimSeat.claim.Goals as goal

pub fetch_add-found-requires : goal.fetch_add-found-requires
fetch_add-found-requires c =
    let i = c.self.invariant in
    let none : c.self.inside.pen.me.0.ended ≡ 0 = i.ended ∙ ap ends c.if-self.false in
    (i.place, omega (arith, i.one_word), draws _ _ _ _ (omega (arith, none, i.one)))
