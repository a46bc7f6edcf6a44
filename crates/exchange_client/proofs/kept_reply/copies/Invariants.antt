use Rattle.std.proofs.Common.{◌≡◌, take}
use Rattle.exchange_client.proofs.kept_reply.copies.Given as goal

-- the pages so far are copied
abbrev pub invariant-loop-page : goal.invariant-loop-page
invariant-loop-page l = l.list ≡ take l.page-index l.pages
