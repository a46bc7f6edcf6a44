use Rattle.std.proofs.Common.{◌≡◌, ◌+◌, ◌++◌, ◌≤◌, length, map, take, vec_len, vec_capacity}
use Rattle.columns.proofs.texts.append_ends.Given as goal

abbrev pub invariant-loop-end : goal.invariant-loop-end
invariant-loop-end l = record {
  room : vec_len l.ends + (length l.others) ≤ vec_capacity l.ends + l.end-index;
  items : l.ends.items ≡ l.initial.ends.items ++ map (λ e. e + l.start) (take l.end-index l.others);
}
