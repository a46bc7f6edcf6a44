use Rattle.std.proofs.Common.{◌≡◌, take, drop}
use Rattle.page_window.proofs.window.PageWindow.copies.Given as goal

-- the pages between the first place and this one are copied
abbrev pub invariant-loop-place : goal.invariant-loop-place
invariant-loop-place l = l.pages ≡ drop l.from (take l.place l.self.held)
