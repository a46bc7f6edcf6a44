use Rattle.std.proofs.Common.{◌≡◌, ◌<◌, ◌++◌, [], ◌∷◌, length, get_or, set, arith, refl, ap, ◌∙◌}
use Rattle.std.proofs.lemmas.List.{map-set}
use Rattle.output_buffer.proofs.PlaceLemmas.{item_told, length_told, none_placed, placed_more, places_before}
use Rattle.output_buffer.proofs.partitioner.put_places.Goals as goal

pub loop-place-init : goal.loop-place-init
loop-place-init c = none_placed (λ p. p.items) c.args.buckets.now c.args.places.now.items c.requires.empty

pub index_mut-requires : goal.index_mut-requires
index_mut-requires c =
    let below : get_or c.args.buckets.now c.loop-place.place 0 < length c.args.places.now.items = c.requires.below c.loop-place.place 0 (omega arith) in
    let long : length c.loop-place.places.items ≡ length c.args.places.now.items =
    length_told (λ p. p.items) (places_before c.args.buckets.now c.loop-place.place) c.loop-place.places.items (length c.args.places.now.items) c.loop-place.invariant in
    omega (arith, below, long, c.loop-place.places.ok.0)

pub loop-place-preserved : goal.loop-place-preserved
loop-place-preserved c =
    let b = get_or c.args.buckets.now c.loop-place.place 0 in
    let below : b < length c.args.places.now.items = c.requires.below c.loop-place.place 0 (omega arith) in
    map-set (λ p. p.items) c.loop-place.places.items b c.push.new.self
    ∙ ap (λ lists. set lists b c.push.new.self.items) c.loop-place.invariant
    ∙ placed_more c.args.buckets.now (length c.args.places.now.items) c.loop-place.place b c.push.new.self.items refl below
    (c.in_ok-push.ensures.items ∙ ap (λ places. places ++ c.loop-place.place ∷ [])
    (ap (λ p. p.items) c.index_mut.ensures.value
    ∙ item_told (λ p. p.items) (places_before c.args.buckets.now c.loop-place.place) c.loop-place.places.items (length c.args.places.now.items) b c.index_mut.result.now c.loop-place.invariant below))
