use Rattle.std.proofs.Common.{◌≡◌, ◌++◌, take, drop, map}
use Rattle.sql_values.specs.Blocks.{with_cells}
use Rattle.page_processor.proofs.project.truncate_each.Given as goal

-- the blocks so far are cut, the others as they were
abbrev pub invariant-loop-block : goal.invariant-loop-block
invariant-loop-block l = l.block-items ≡ map (λ b. with_cells b (take l.len b.cells)) (take l.block-index l.initial.block-items) ++ drop l.block-index l.initial.block-items
