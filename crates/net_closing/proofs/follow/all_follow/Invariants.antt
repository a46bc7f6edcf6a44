use Rattle.std.proofs.Common.{◌≡◌, take}
use Rattle.std.specs.Prelude.{All}
use Rattle.net_closing.proofs.follow.all_follow.Given as goal

abbrev pub invariant-loop-place : goal.invariant-loop-place
invariant-loop-place g l = record {
  looks : l.looks.items ≡ l.fn.looks.items;
  builds : l.builds.items ≡ l.fn.builds.items;
  front : All (λ (look : g.row.N.Denot). All (g.N.Follows.learned look) l.fn.builds.items) (take l.place l.fn.looks.items);
}
