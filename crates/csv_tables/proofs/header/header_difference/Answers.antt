use Rattle.std.proofs.Common.{◌≡◌, ◌∙◌, sym, true, false}
use Rattle.csv.specs.Records.{fields_of, field_at}
use Rattle.csv_tables.specs.Records.{names_column}
use Rattle.csv_tables.proofs.FieldLemmas.{differs_step}
use Rattle.csv_tables.proofs.header.header_difference.Goals as goal

pub returns-then-not-is_name_of : goal.returns-then-not-is_name_of
returns-then-not-is_name_of c =
    let step = differs_step (fields_of c.args.header.now) c.args.columns.now c.loop-at.at c.loop-at.at c.index-columns-at.result c.loop-at-test.true c.index-columns-at.is in
    let unnamed : names_column c.index-columns-at.result (field_at (fields_of c.args.header.now) c.loop-at.at) ≡ false =
    rw (← c.get.ensures.value) (sym c.is_name_of.ensures ∙ c.if-not-is_name_of.true) in
    sym (c.loop-at.invariant ∙ rw unnamed at step)

pub loop-at-preserved : goal.loop-at-preserved
loop-at-preserved c =
    let step = differs_step (fields_of c.args.header.now) c.args.columns.now c.loop-at.at c.loop-at.at c.index-columns-at.result c.loop-at-test.true c.index-columns-at.is in
    let named : names_column c.index-columns-at.result (field_at (fields_of c.args.header.now) c.loop-at.at) ≡ true =
    rw (← c.get.ensures.value) (sym c.is_name_of.ensures ∙ c.if-not-is_name_of.false) in
    c.loop-at.invariant ∙ rw named at step
