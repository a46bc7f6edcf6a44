use Rattle.std.proofs.Common.{List, [], ◌∷◌, ap, sym, ◌∙◌}
use Rattle.sql_values.specs.declared.value.Value.{Value}
use Rattle.relation_laws.specs.Partials.{merged, partial_of}
use Rattle.relation_laws.proofs.PartialLemmas.{partial_of-append}
use Rattle.accumulators.proofs.accumulator.Accumulator.rows_are_taken.Goals as goal

pub returns-clause-row : goal.returns-clause-row
returns-clause-row c =
    let calls = c.args.self.now.calls in
    ap (λ (p : List Value). merged calls p (partial_of calls (c.args.row.now ∷ []))) c.requires
    ∙ sym (partial_of-append calls c.args.rows.now (c.args.row.now ∷ []))

pub returns-clause-part : goal.returns-clause-part
returns-clause-part c =
    let calls = c.args.self.now.calls in
    ap (λ (p : List Value). merged calls p (partial_of calls c.args.others.now)) c.requires
    ∙ sym (partial_of-append calls c.args.rows.now c.args.others.now)
