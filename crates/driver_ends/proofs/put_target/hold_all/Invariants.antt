use Rattle.std.proofs.Common.{◌≡◌, ℕ, ◌<◌, ◌≤◌, length, get_or, map}
use Rattle.std.specs.Prelude.{All}
use Rattle.driver_ends.specs.Outlets.{IsClear, OutletInOrder, OutletState, rows_sent}
use Rattle.driver_ends.specs.Targets.{add_each}
use Rattle.driver_ends.proofs.put_target.hold_all.Given as goal

-- with the pages that are left, the outlets will hold what they are to hold of all pages
abbrev pub invariant-loop-page : goal.invariant-loop-page
invariant-loop-page l = record {
  few : length l.pages.items ≤ length l.outlets;
  clear : (k : ℕ) (d : OutletState) → k < length l.pages.items → IsClear (get_or l.outlets k d);
  order : All OutletInOrder l.outlets;
  seats : map (λ outlet. outlet.seat) l.outlets ≡ map (λ outlet. outlet.seat) l.initial.outlets;
  sent : add_each (map rows_sent l.outlets) (map (λ p. p.rows) l.pages.items) ≡ add_each (map rows_sent l.initial.outlets) (map (λ p. p.rows) l.initial.pages.items);
}

abbrev pub decreases-loop-page : goal.decreases-loop-page
decreases-loop-page l = goal.left-loop-page l
