use Rattle.std.proofs.Common.{ap, ◌∙◌}
use Rattle.relation_laws.specs.Partials.{results_from}
use Rattle.relation_laws.proofs.PartialLemmas.{results_from-partial_of}
use Rattle.accumulators.proofs.accumulator.Accumulator.results_are_aggregates.Goals as goal

pub returns : goal.returns
returns c =
    ap (results_from c.args.types.now c.args.self.now.calls) c.requires
    ∙ results_from-partial_of c.args.types.now c.args.self.now.calls c.args.rows.now
