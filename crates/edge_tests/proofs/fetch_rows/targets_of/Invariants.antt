use Rattle.std.proofs.Common.{◌≡◌, []}
use Rattle.std.specs.Prelude.{All}
use Rattle.std.specs.Vec.Iter.{into_iter_items}
use Rattle.edge_tests.proofs.fetch_rows.targets_of.Given as goal

-- none of the seats that are left has put anything
abbrev pub invariant-loop-seat : goal.invariant-loop-seat
invariant-loop-seat l = All (λ s. s.put ≡ []) (into_iter_items l.seat-iterator)
