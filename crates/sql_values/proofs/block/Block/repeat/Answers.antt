use Rattle.sql_values.specs.Cells.{lent_value}
use Rattle.sql_values.proofs.SharedLemmas.{repeat-whole}
use Rattle.sql_values.proofs.block.Block.repeat.Goals as goal

pub returns : goal.returns
returns c =
    repeat-whole c.args.kind c.args.value.now (lent_value c.as_ref.result) c.args.count c.new-one.result c.push.new.self c.in_ok-push.field-0
    c.new-one.ensures c.as_ref.ensures c.in_ok-push.ensures.taken c.requires c.in_ok-push.ensures.ok
