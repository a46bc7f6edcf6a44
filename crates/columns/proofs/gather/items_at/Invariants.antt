use Rattle.std.proofs.Common.{◌≡◌, ◌+◌, ◌≤◌, take, length, vec_len, vec_capacity}
use Rattle.columns.specs.Present.{gather}
use Rattle.columns.proofs.gather.items_at.Given as goal

abbrev pub invariant-loop-place : goal.invariant-loop-place
invariant-loop-place g l = record {
  room : vec_len l.chosen + (length l.places) ≤ vec_capacity l.chosen + l.place-index;
  items : (d : g.row.T.Denot) → l.chosen.items ≡ gather l.items d (take l.place-index l.places);
  len : length l.chosen.items ≡ l.place-index;
}
