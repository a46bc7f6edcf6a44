use Rattle.std.proofs.Common.{[], ◌∷◌, ap}
use Rattle.std.specs.Prelude.{filter}
use Rattle.sql_values.specs.Cells.{cell, lent_value}
use Rattle.relation_laws.specs.Aggregates.{count_of}
use Rattle.relation_laws.specs.Equality.{is_present}
use Rattle.relation_laws.specs.Partials.{added_counts}
use Rattle.accumulators.specs.HeldStates.{count_columns}
use Rattle.accumulators.proofs.SlotLemmas.{put-at}
use Rattle.accumulators.proofs.kept_states.count_cell_at.Goals as goal

pub returns : goal.returns
returns c =
    put-at count_columns c.args.counts.now.items c.args.place c.count_cell.new.count c.index_mut.result.now
    (λ cs. added_counts (cell cs 0) (count_of (filter is_present (lent_value c.args.cell ∷ []))) ∷ [])
    c.requires.within c.index_mut.ensures.value (ap (λ v. v ∷ []) c.count_cell.ensures.value)
