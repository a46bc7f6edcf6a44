use Rattle.std.proofs.Common.{[], ◌∷◌}
use Rattle.sql_values.specs.Cells.{lent_value}
use Rattle.accumulators.specs.declared.averages.Average.{Average}
use Rattle.accumulators.specs.HeldStates.{added_average, average_columns}
use Rattle.accumulators.proofs.SlotLemmas.{put-at}
use Rattle.accumulators.proofs.averages.add_average_at.Goals as goal

pub returns : goal.returns
returns c =
    let now : Average = record { sum = c.add_sum.new.sum; count = c.add_count.new.count } in
    put-at average_columns c.args.averages.now.items c.args.place now c.index_mut-average.result.now
    (λ cs. added_average cs (lent_value c.args.sum) (lent_value c.args.count))
    c.requires.within c.index_mut-average.ensures.value (λ i. c.add_sum.ensures i ∷ c.add_count.ensures.value i ∷ [])
