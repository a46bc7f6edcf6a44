use Rattle.std.proofs.Common.{◌≡◌, ◌<◌, ◌-◌, arith, ap}
use Rattle.split_source.proofs.ClaimLemmas.{splits}
use Rattle.split_source.proofs.claims.deal.Goals as goal

pub split_seat-one-requires : goal.split_seat-one-requires
split_seat-one-requires c =
    let i = c.loop.invariant in
    let seats : c.loop.pen.me.0.seats ≡ c.args.number - (c.loop.counter - 1) = ap (λ m. m.0.seats) i.3 in
    let ended : c.loop.pen.me.0.ended ≡ 0 = ap (λ m. m.0.ended) i.3 in
    let more : c.loop.counter < c.args.number = c.loop-test.true in
    (i.2, omega (arith, c.requires.place.1), splits _ _ _ (omega (arith, seats, more, c.loop.auto.counter)) (omega (arith, seats, ended, more, c.loop.auto.counter)))
