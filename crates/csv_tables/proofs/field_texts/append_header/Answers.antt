use Rattle.std.proofs.Common.{◌∙◌}
use Rattle.csv_tables.proofs.TextLemmas.{name_next}
use Rattle.csv_tables.proofs.field_texts.append_header.Goals as goal

pub loop-place-preserved : goal.loop-place-preserved
loop-place-preserved c =
    name_next c.args.to.now.items c.loop-place.to.items c.put_separator.new.to.items c.put_name.new.to.items c.args.names.now c.loop-place.place
    c.index-names-place.result c.as_bytes.result.now c.loop-place-test.true c.index-names-place.is (c.as_bytes.ensures.value ∙ c.as_str.ensures)
    c.loop-place.invariant c.in_ok-put_separator.ensures c.in_ok-put_name.ensures
