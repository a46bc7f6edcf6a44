use Rattle.std.proofs.Common.{◌≡◌, ℕ, ◌+◌, true, None}
use Rattle.output_buffer.specs.Edges.{end_count}
use Rattle.driver_ends.specs.Deals.{deal_dues, deal_kept}
use Rattle.driver_ends.proofs.deal_target.DealTargetPutsPieces.put_ends.Given as goal

-- so many Ends were put
abbrev pub invariant-loop-number : goal.invariant-loop-number
invariant-loop-number g l = record {
  clear : l.self.held ≡ None;
  told : l.self.is_told ≡ true;
  ends : end_count l.self.seat.put ≡ end_count l.initial.self.seat.put + l.number;
  kept : deal_kept true l.self ≡ deal_kept true l.initial.self;
  fulls : l.self.seat.fulls ≡ l.initial.self.seat.fulls;
  shown : (bell count : ℕ) → g.B.Bells.shown l.initial.bells bell count → g.B.Bells.shown l.bells bell count;
  rang : (bell times : ℕ) → g.B.Bells.rang l.initial.bells bell (times + deal_dues l.initial.self bell) → g.B.Bells.rang l.bells bell (times + deal_dues l.self bell);
}
