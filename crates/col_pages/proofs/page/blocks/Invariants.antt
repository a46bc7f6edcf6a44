use Rattle.std.proofs.Common.{◌≡◌, ◌-◌, take, drop}
use Rattle.col_pages.specs.Pages.{blocks_of}
use Rattle.col_pages.proofs.page.blocks.Given as goal

-- the columns so far
abbrev pub invariant-loop-place : goal.invariant-loop-place
invariant-loop-place l = l.blocks.items ≡ blocks_of (take l.place l.types) (take l.place l.columns) (take (l.high - l.low) (drop l.low l.rows))
