use Rattle.std.proofs.Common.{arith}
use Rattle.operator_core.proofs.HeldLemmas.{one_full_more}
use Rattle.operator_core.proofs.held_pages.HeldPages.push.Goals as goal

pub invariant_of-self-2 : goal.invariant_of-self-2
invariant_of-self-2 c =
    rw c.in_ok-push.ensures.ok (one_full_more c.self.inside.pages c.args.page c.self.invariant (omega arith))
