use Rattle.std.proofs.Common.{[], ◌∷◌, ap}
use Rattle.sql_values.specs.Cells.{cell, lent_value}
use Rattle.relation_laws.specs.Partials.{added_counts}
use Rattle.accumulators.specs.HeldStates.{count_columns}
use Rattle.accumulators.proofs.SlotLemmas.{put-at}
use Rattle.accumulators.proofs.kept_states.add_count_at.Goals as goal

pub returns : goal.returns
returns c =
    put-at count_columns c.args.counts.now.items c.args.place c.add_count.new.count c.index_mut.result.now (λ cs. added_counts (cell cs 0) (lent_value c.args.value) ∷ [])
    c.requires.within c.index_mut.ensures.value (ap (λ v. v ∷ []) c.add_count.ensures.value)
