use Rattle.std.proofs.Common.{◌≡◌, ◌%◌, ap, map, ◌∙◌}
use Rattle.std.proofs.lemmas.Result.{IfOk-weaker}
use Rattle.bag_laws.specs.Buckets.{key_bucket}
use Rattle.output_buffer.specs.Partitions.{Partition}
use Rattle.output_buffer.proofs.PartitionLemmas.{bucketed}
use Rattle.output_buffer.proofs.partitioner.Partitioner.buckets.Goals as goal

pub returns-clause-buckets : goal.returns-clause-buckets
returns-clause-buckets c =
    IfOk-weaker c.buckets_of.result (λ v. v.items ≡ map (λ hash. hash % c.self.inside.parts) c.deref-2.result.now)
    (λ v. v.items ≡ map (key_bucket c.args.self.now.parts c.args.self.now.columns) c.args.page.now.rows)
    (λ v e. e ∙ ap (map (λ hash. hash % c.self.inside.parts)) (c.deref-2.ensures.value ∙ c.in_ok-hashes.ensures.hashes)
    ∙ bucketed c.self.inside.parts c.deref.result.now c.args.page.now.rows
    ∙ ap (λ columns. map (key_bucket c.self.inside.parts columns) c.args.page.now.rows) c.deref.ensures.value
    ∙ ap (λ (by : Partition). map (key_bucket by.parts by.columns) c.args.page.now.rows) c.self.view_is)
    c.buckets_of.ensures
