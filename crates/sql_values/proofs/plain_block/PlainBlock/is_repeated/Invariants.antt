use Rattle.std.proofs.Common.{get_or, take}
use Rattle.sql_values.specs.declared.value.Value.TheVariants as value
use Rattle.sql_values.specs.Blocks.{AreAll}
use Rattle.sql_values.proofs.plain_block.PlainBlock.is_repeated.Given as goal

-- the cells so far
abbrev pub invariant-loop-place : goal.invariant-loop-place
invariant-loop-place l = AreAll (get_or l.self.cells 0 value.Null) (take l.place l.self.cells)
