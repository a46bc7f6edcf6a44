use Rattle.std.proofs.Common.{◌≡◌, ℕ, ◌+◌, List, [], ◌++◌, length, get_or, take, drop, map, arith, refl, rules, ap, ◌∙◌}
use Rattle.std.specs.Prelude.{replicate}
use Rattle.std.proofs.lemmas.Grind.{common_steps}
use Rattle.std.proofs.lemmas.List.{length-map}
use Rattle.sql_values.specs.Buckets.{bytes_of, hash_after}
use Rattle.sql_values.specs.Cells.{cell}
use Rattle.output_buffer.specs.Partitions.{hash_of}
use Rattle.output_buffer.proofs.PartitionLemmas.{hashed_more, none_hashed}
use Rattle.output_buffer.proofs.partitioner.hash_rows.Goals as goal

pub loop-column-init : goal.loop-column-init
loop-column-init c =
    let none : c.in_ok-hashes.hashes.items ≡ replicate c.len.result 14695981039346656037 = search rules in
    none ∙ ap (λ n. replicate n 14695981039346656037) c.len.ensures.len ∙ none_hashed c.args.page.now.rows

pub loop-column-preserved : goal.loop-column-preserved
loop-column-preserved c =
    let old = c.loop-column.hashes.items in
    let new = c.hash_column.new.hashes in
    let long : length old ≡ length c.args.page.now.rows = ap length c.loop-column.invariant ∙ length-map c.args.page.now.rows (hash_of (take c.loop-column.column-index c.args.columns.now)) in
    let same : length new ≡ length old = c.hash_column.ensures.len ∙ ap length c.deref_mut.ensures.value in
    let next : new ≡ map (hash_of (take (c.loop-column.column-index + 1) c.args.columns.now)) c.args.page.now.rows =
    hashed_more c.args.columns.now c.args.page.now.rows c.loop-column.column-index _ old new (omega arith) refl c.loop-column.invariant same
    (λ k h. c.hash_column.ensures.each k (omega (arith, h, long, ap length c.deref_mut.ensures.value))
    ∙ ap (λ (hs : List ℕ). hash_after (get_or hs k 0) (bytes_of (cell (get_or c.args.page.now.rows k []) (get_or c.args.columns.now c.loop-column.column-index 0)))) c.deref_mut.ensures.value) in
    let written : take c.loop-column.hashes.len (new ++ drop (length new) old) ≡ new = grind (arith, common_steps) in
    written ∙ next
