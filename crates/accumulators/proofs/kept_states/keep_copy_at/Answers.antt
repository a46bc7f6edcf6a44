use Rattle.std.proofs.Common.{[], ◌∷◌, refl, ap}
use Rattle.sql_values.specs.Cells.{cell, lent_value}
use Rattle.relation_laws.specs.Aggregates.{earlier}
use Rattle.accumulators.specs.HeldStates.{value_columns}
use Rattle.accumulators.proofs.SlotLemmas.{ok_from, put-at, put-others}
use Rattle.accumulators.proofs.kept_states.keep_copy_at.Goals as goal

pub returns-clause-ok : goal.returns-clause-ok
returns-clause-ok c =
    ok_from c.keep_copy.result c.keep_copy.result refl
    (λ e. put-at value_columns c.args.firsts.now.items c.args.place c.keep_copy.new.first c.index_mut.result.now
    (λ cs. earlier c.args.order (cell cs 0) (lent_value c.args.cell) ∷ []) c.requires c.index_mut.ensures.value (ap (λ v. v ∷ []) e))
    c.keep_copy.ensures

pub returns-clause-others : goal.returns-clause-others
returns-clause-others c = put-others value_columns c.args.firsts.now.items c.args.place c.keep_copy.new.first []
