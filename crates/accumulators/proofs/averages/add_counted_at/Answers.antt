use Rattle.std.proofs.Common.{[], ◌∷◌}
use Rattle.std.specs.Prelude.{filter}
use Rattle.sql_values.specs.Cells.{lent_value}
use Rattle.relation_laws.specs.Aggregates.{count_of}
use Rattle.relation_laws.specs.Equality.{is_present}
use Rattle.relation_laws.specs.Partials.{partial_sum}
use Rattle.accumulators.specs.declared.averages.Average.{Average}
use Rattle.accumulators.specs.HeldStates.{added_average, average_columns}
use Rattle.accumulators.proofs.SlotLemmas.{put-at, put-others}
use Rattle.accumulators.proofs.averages.add_counted_at.Goals as goal

pub returns-clause-value : goal.returns-clause-value
returns-clause-value c = λ taken.
    let now : Average = record { sum = c.add_counted.new.sum; count = c.add_counted.new.count } in
    let present = filter is_present (lent_value c.args.cell ∷ []) in
    put-at average_columns c.args.averages.now.items c.args.place now c.index_mut-average.result.now (λ cs. added_average cs (partial_sum present) (count_of present))
    c.requires.within c.index_mut-average.ensures.value (λ i. c.add_counted.ensures.sum taken i ∷ c.add_counted.ensures.count taken i ∷ [])

pub returns-clause-others : goal.returns-clause-others
returns-clause-others c =
    let now : Average = record { sum = c.add_counted.new.sum; count = c.add_counted.new.count } in
    put-others average_columns c.args.averages.now.items c.args.place now []
