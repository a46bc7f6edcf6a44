use Rattle.std.proofs.Common.{length, map, refl, subst}
use Rattle.std.specs.Prelude.{slice_set}
use Rattle.std.specs.Option.{option_to_list}
use Rattle.std.proofs.lemmas.Option.{slice_get_read}
use Rattle.seat_stocks.specs.Shelves.{IsLeft}
use Rattle.seat_stocks.proofs.ShelfLemmas.{left_of}
use Rattle.seat_stocks.proofs.shelf.Shelf.take.Goals as goal

pub returns-clause-left : goal.returns-clause-left
returns-clause-left g c =
    let lanes = c.self.inside.lanes.items in
    let seats = c.in-Some.seats.now in
    subst (λ old. IsLeft old (map (λ lane. lane.items) (slice_set lanes c.args.lane c.pop.new.self))) c.self.view_is
    (left_of (λ lane. lane.items) lanes c.args.lane seats c.pop.new.self (option_to_list c.pop.result)
    (slice_get_read lanes (length lanes) c.args.lane seats refl c.in-Some.ensures.item.3.0 c.in-Some.ensures.value) c.pop.ensures.items)
