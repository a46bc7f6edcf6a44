use Rattle.std.proofs.Common.{arith}
use Rattle.columns.proofs.PresentLemmas.{presents, present-gather, All-within}
use Rattle.columns.proofs.nullable.Nullable.select.Goals as goal

pub items_at-requires : goal.items_at-requires
items_at-requires g c = All-within _ _ _ (grind (arith, presents)) c.requires

pub items_at-requires-2 : goal.items_at-requires-2
items_at-requires-2 g c = All-within _ _ _ (grind (arith, presents)) c.requires

pub returns : goal.returns
returns g c =
    rw (← c.self.view_is)
    (present-gather _ _ _ _ _ c.self.invariant (All-within _ _ _ (grind (arith, presents)) c.requires) c.in_ok-items_at.ensures.len
    (λ d. rw c.as_slice.ensures.value at c.in_ok-items_at.ensures.items d)
    (λ b. rw c.as_slice-2.ensures.value at c.in_ok-items_at-2.ensures.items b))
