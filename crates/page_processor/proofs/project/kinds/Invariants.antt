use Rattle.std.proofs.Common.{◌≡◌, take}
use Rattle.sql_values.specs.ColumnRows.{kinds_of}
use Rattle.page_processor.proofs.project.kinds.Given as goal

-- the types of the blocks so far
abbrev pub invariant-loop-block : goal.invariant-loop-block
invariant-loop-block l = l.kinds.items ≡ kinds_of (take l.block-index l.blocks)
