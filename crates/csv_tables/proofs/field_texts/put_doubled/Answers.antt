use Rattle.csv_tables.proofs.PlainLemmas.{doubled_next, doubled_none}
use Rattle.csv_tables.proofs.field_texts.put_doubled.Goals as goal

pub loop-byte-init : goal.loop-byte-init
loop-byte-init c = doubled_none c.args.to.now.items

pub loop-byte-preserved : goal.loop-byte-preserved
loop-byte-preserved c =
    doubled_next c.args.to.now.items c.loop-byte.to.items c.put_doubled_byte.new.to.items c.args.bytes.now c.loop-byte.byte-index
    c.loop-byte-test.true c.loop-byte.invariant c.in_ok-put_doubled_byte.ensures
