use Rattle.std.proofs.Common.{◌≤◌, ◌∙◌, List, ap, arith, length, refl, subst}
use Rattle.std.specs.Prelude.{All}
use Rattle.std.proofs.lemmas.List.{take_all}
use Rattle.net_closing.proofs.NoteLemmas.{compared, same_at}
use Rattle.net_closing.proofs.follow.all_follow_one.Goals as goal

pub loop-place-preserved : goal.loop-place-preserved
loop-place-preserved g c =
    let inv = c.loop-place.invariant in
    record {
      look = c.is_followed.ensures.look ∙ inv.look;
      builds = same_at c.loop-place.builds.items c.loop-place.place c.index_mut.result.now c.is_followed.new.build c.is_followed.ensures.build c.index_mut.ensures.value ∙ inv.builds;
      front = compared g.N.Follows.learned c.args.look.now c.loop-place.look c.args.builds.now.items c.loop-place.builds.items c.loop-place.place c.index_mut.result.now inv.look inv.builds
          (omega (arith, c.loop-place-test.true, c.len-place-end.ensures, ap (λ (bs : List g.row.N.Denot). length bs) inv.builds, c.args.builds.now.ok.0)) c.index_mut.ensures.value inv.front
          (c.if-not-is_followed.ensures.learned refl);
    }

pub returns-clause-follow : goal.returns-clause-follow
returns-clause-follow g c = λ e.
    let past : length c.args.builds.now.items ≤ c.loop-place.place = omega (arith, c.loop-place-test.false, c.len-place-end.ensures, c.args.builds.now.ok.0) in
    subst (All (g.N.Follows.learned c.args.look.now)) (take_all c.loop-place.place c.args.builds.now.items past) c.loop-place.invariant.front
