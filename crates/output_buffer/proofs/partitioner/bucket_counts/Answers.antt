use Rattle.std.proofs.Common.{◌≡◌, ◌+◌, ◌<◌, ◌≤◌, length, get_or, set, take, arith, rules, ap, refl, ◌∙◌}
use Rattle.std.specs.Prelude.{replicate}
use Rattle.std.proofs.lemmas.List.FromFn.{length-map-range_with_len}
use Rattle.output_buffer.proofs.PlaceLemmas.{count_of, counted, counted_few, counted_more, none_counted}
use Rattle.output_buffer.proofs.partitioner.bucket_counts.Goals as goal

pub loop-bucket-init : goal.loop-bucket-init
loop-bucket-init c =
    let none : c.in_ok-counts.counts.items ≡ replicate c.args.parts 0 = search rules in
    none ∙ none_counted 0 c.args.parts

pub index_mut-requires : goal.index_mut-requires
index_mut-requires c =
    let below : get_or c.args.buckets.now c.loop-bucket.bucket-index 0 < c.args.parts = c.requires c.loop-bucket.bucket-index 0 (omega arith) in
    let long : length c.loop-bucket.counts.items ≡ c.args.parts =
    ap length c.loop-bucket.invariant ∙ length-map-range_with_len (count_of (take c.loop-bucket.bucket-index c.args.buckets.now)) 0 c.args.parts in
    omega (arith, below, long, c.loop-bucket.counts.ok.0)

pub overflow_add-index_mut : goal.overflow_add-index_mut
overflow_add-index_mut c =
    let b = get_or c.args.buckets.now c.loop-bucket.bucket-index 0 in
    let is : c.index_mut.result.now ≡ count_of (take c.loop-bucket.bucket-index c.args.buckets.now) b =
    counted c.args.buckets.now c.loop-bucket.counts.items c.args.parts c.loop-bucket.bucket-index b c.index_mut.result.now
    c.loop-bucket.invariant (c.requires c.loop-bucket.bucket-index 0 (omega arith)) c.index_mut.ensures.value in
    let few : c.index_mut.result.now ≤ c.loop-bucket.bucket-index = omega (arith, is, counted_few c.args.buckets.now c.loop-bucket.bucket-index b) in
    grind (arith, few)

pub loop-bucket-preserved : goal.loop-bucket-preserved
loop-bucket-preserved c =
    let b = get_or c.args.buckets.now c.loop-bucket.bucket-index 0 in
    let below = c.requires c.loop-bucket.bucket-index 0 (omega arith) in
    ap (λ counts. set counts b (c.index_mut.result.now + 1)) c.loop-bucket.invariant
    ∙ counted_more c.args.buckets.now c.args.parts c.loop-bucket.bucket-index b (c.index_mut.result.now + 1) (omega arith) refl below
    (ap (λ n. n + 1) (counted c.args.buckets.now c.loop-bucket.counts.items c.args.parts c.loop-bucket.bucket-index b c.index_mut.result.now
    c.loop-bucket.invariant below c.index_mut.ensures.value))
