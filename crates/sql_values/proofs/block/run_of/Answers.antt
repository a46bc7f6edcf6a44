use Rattle.std.proofs.Common.{◌<◌, length, arith}
use Rattle.sql_values.proofs.SharedLemmas.{run-whole}
use Rattle.sql_values.proofs.block.run_of.Goals as goal

pub returns : goal.returns
returns c =
    let some : 0 < length c.args.block.cells = grind arith in
    run-whole c.args.block c.truncate.new.self c.len-count.result c.requires some c.len-count.ensures c.truncate.ensures
