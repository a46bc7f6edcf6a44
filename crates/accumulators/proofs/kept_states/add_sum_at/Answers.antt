use Rattle.std.proofs.Common.{[], ◌∷◌, ap}
use Rattle.sql_values.specs.Cells.{cell, lent_value}
use Rattle.relation_laws.specs.Partials.{added_sums}
use Rattle.accumulators.specs.HeldStates.{sum_columns}
use Rattle.accumulators.proofs.SlotLemmas.{put-at}
use Rattle.accumulators.proofs.kept_states.add_sum_at.Goals as goal

pub returns : goal.returns
returns c =
    put-at sum_columns c.args.sums.now.items c.args.place c.add_sum.new.sum c.index_mut.result.now (λ cs. added_sums (cell cs 0) (lent_value c.args.value) ∷ [])
    c.requires.within c.index_mut.ensures.value (ap (λ v. v ∷ []) c.add_sum.ensures)
