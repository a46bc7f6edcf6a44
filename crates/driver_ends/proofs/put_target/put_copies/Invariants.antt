use Rattle.std.proofs.Common.{◌≡◌}
use Rattle.std.specs.Prelude.{replicate}
use Rattle.std.specs.Vec.{vec_capacity}
use Rattle.driver_ends.proofs.put_target.put_copies.Given as goal

abbrev pub invariant-loop-copy : goal.invariant-loop-copy
invariant-loop-copy l = record {
  copies : l.pages.items ≡ replicate l._copy l.page;
  room : vec_capacity l.pages ≡ vec_capacity l.initial.pages;
}
