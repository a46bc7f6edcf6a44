use Rattle.std.proofs.Common.{◌≡◌, arith, ap, map, sym, subst, ◌∙◌}
use Rattle.std.proofs.lemmas.Result.{IfOk-weaker}
use Rattle.bag_laws.specs.Weights.{SameWeights}
use Rattle.output_buffer.specs.Partitions.{all_rows, parts_of, rows_at}
use Rattle.output_buffer.proofs.PartitionLemmas.{ArePlaced, below_parts, placed, together}
use Rattle.output_buffer.proofs.partitioner.Partitioner.split.Goals as goal

pub places_by_bucket-requires-clause-below : goal.places_by_bucket-requires-clause-below
places_by_bucket-requires-clause-below c =
    below_parts c.args.self.now c.args.page.now c.deref.result.now c.self.inside.parts (ap (λ s. s.parts) c.self.view_is) c.self.invariant
    (c.deref.ensures.value ∙ c.in_ok-buckets.ensures.buckets)

pub select_each-requires-clause-within : goal.select_each-requires-clause-within
select_each-requires-clause-within c =
    let all : ArePlaced (λ p. p.items) c.args.self.now c.args.page.now c.deref-2.result.now =
    placed (λ p. p.items) c.args.self.now c.args.page.now c.deref.result.now c.self.inside.parts c.deref-2.result.now (ap (λ s. s.parts) c.self.view_is)
    c.in_ok-buckets.ensures.few (c.deref.ensures.value ∙ c.in_ok-buckets.ensures.buckets) (ap (map (λ p. p.items)) c.deref-2.ensures.value ∙ c.in_ok-places.ensures) in
    all.within

pub select_each-requires-clause-few : goal.select_each-requires-clause-few
select_each-requires-clause-few c =
    let all : ArePlaced (λ p. p.items) c.args.self.now c.args.page.now c.deref-2.result.now =
    placed (λ p. p.items) c.args.self.now c.args.page.now c.deref.result.now c.self.inside.parts c.deref-2.result.now (ap (λ s. s.parts) c.self.view_is)
    c.in_ok-buckets.ensures.few (c.deref.ensures.value ∙ c.in_ok-buckets.ensures.buckets) (ap (map (λ p. p.items)) c.deref-2.ensures.value ∙ c.in_ok-places.ensures) in
    all.few

pub returns-clause-pages : goal.returns-clause-pages
returns-clause-pages c =
    let all : ArePlaced (λ p. p.items) c.args.self.now c.args.page.now c.deref-2.result.now =
    placed (λ p. p.items) c.args.self.now c.args.page.now c.deref.result.now c.self.inside.parts c.deref-2.result.now (ap (λ s. s.parts) c.self.view_is)
    c.in_ok-buckets.ensures.few (c.deref.ensures.value ∙ c.in_ok-buckets.ensures.buckets) (ap (map (λ p. p.items)) c.deref-2.ensures.value ∙ c.in_ok-places.ensures) in
    IfOk-weaker c.select_each.result (λ v. v.items ≡ map (λ p. record c.args.page.now { rows = rows_at c.args.page.now.rows p.items }) c.deref-2.result.now)
    (λ v. v.items ≡ parts_of c.args.self.now c.args.page.now) (λ v e. e ∙ all.pages) c.select_each.ensures

pub returns-clause-together : goal.returns-clause-together
returns-clause-together c =
    IfOk-weaker c.select_each.result (λ v. v.items ≡ parts_of c.args.self.now c.args.page.now) (λ v. SameWeights (all_rows v.items) c.args.page.now.rows)
    (λ v e. subst (λ pages. SameWeights (all_rows pages) c.args.page.now.rows) (sym e) (together c.args.self.now c.args.page.now (omega (arith, ap (λ s. s.parts) c.self.view_is, c.self.invariant))))
    (returns-clause-pages c)
