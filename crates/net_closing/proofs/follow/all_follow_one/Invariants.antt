use Rattle.std.proofs.Common.{◌≡◌, take}
use Rattle.std.specs.Prelude.{All}
use Rattle.net_closing.proofs.follow.all_follow_one.Given as goal

abbrev pub invariant-loop-place : goal.invariant-loop-place
invariant-loop-place g l = record {
  look : l.look ≡ l.fn.look;
  builds : l.builds.items ≡ l.fn.builds.items;
  front : All (g.N.Follows.learned l.fn.look) (take l.place l.fn.builds.items);
}
