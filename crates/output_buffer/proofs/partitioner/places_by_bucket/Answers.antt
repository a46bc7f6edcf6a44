use Rattle.std.proofs.Common.{◌≡◌, ◌<◌, length, get_or, map, arith, ap, ◌∙◌}
use Rattle.std.specs.List.{range_with_len}
use Rattle.std.proofs.lemmas.List.FromFn.{length-map-range_with_len}
use Rattle.output_buffer.specs.Partitions.{places_of}
use Rattle.output_buffer.proofs.PlaceLemmas.{count_of}
use Rattle.output_buffer.proofs.partitioner.places_by_bucket.Goals as goal

pub put_places-requires-clause-below : goal.put_places-requires-clause-below
put_places-requires-clause-below c = λ k d lt.
    let below : get_or c.args.buckets.now k d < c.args.parts = c.requires.below k d lt in
    omega (arith, below, c.in_ok-places.ensures.len, ap length c.deref.ensures.value, ap length c.in_ok-counts.ensures, length-map-range_with_len (count_of c.args.buckets.now) 0 c.args.parts)

pub returns : goal.returns
returns c =
    let long : length c.in_ok-places.places.items ≡ c.args.parts =
    c.in_ok-places.ensures.len ∙ ap length c.deref.ensures.value ∙ ap length c.in_ok-counts.ensures ∙ length-map-range_with_len (count_of c.args.buckets.now) 0 c.args.parts in
    c.in_ok-put_places.ensures ∙ ap (λ n. map (places_of c.args.buckets.now) (range_with_len 0 n)) long
