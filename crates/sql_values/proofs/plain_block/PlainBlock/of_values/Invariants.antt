use Rattle.std.proofs.Common.{◌≡◌, take}
use Rattle.sql_values.proofs.plain_block.PlainBlock.of_values.Given as goal

-- the values so far
abbrev pub invariant-loop-value : goal.invariant-loop-value
invariant-loop-value l = l.block ≡ record { kind = l.fn.kind; cells = take l.value-index l.values }
