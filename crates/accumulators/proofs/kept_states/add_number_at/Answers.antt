use Rattle.std.proofs.Common.{[], ◌∷◌, ap}
use Rattle.std.specs.Prelude.{filter}
use Rattle.sql_values.specs.Cells.{cell, lent_value}
use Rattle.relation_laws.specs.Equality.{is_present}
use Rattle.relation_laws.specs.Partials.{added_sums, partial_sum}
use Rattle.accumulators.specs.HeldStates.{sum_columns}
use Rattle.accumulators.proofs.SlotLemmas.{put-at, put-others}
use Rattle.accumulators.proofs.kept_states.add_number_at.Goals as goal

pub returns-clause-value : goal.returns-clause-value
returns-clause-value c = λ taken.
    put-at sum_columns c.args.sums.now.items c.args.place c.add_number.new.sum c.index_mut.result.now
    (λ cs. added_sums (cell cs 0) (partial_sum (filter is_present (lent_value c.args.cell ∷ []))) ∷ [])
    c.requires.within c.index_mut.ensures.value (ap (λ v. v ∷ []) (c.add_number.ensures.value taken))

pub returns-clause-others : goal.returns-clause-others
returns-clause-others c = put-others sum_columns c.args.sums.now.items c.args.place c.add_number.new.sum []
