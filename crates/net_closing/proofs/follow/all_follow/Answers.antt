use Rattle.std.proofs.Common.{◌≤◌, ◌∙◌, List, ap, arith, length, refl, subst}
use Rattle.std.specs.Prelude.{All}
use Rattle.std.proofs.lemmas.List.{take_all}
use Rattle.net_closing.proofs.NoteLemmas.{all_compared, same_at}
use Rattle.net_closing.proofs.follow.all_follow.Goals as goal

pub loop-place-preserved : goal.loop-place-preserved
loop-place-preserved g c =
    let inv = c.loop-place.invariant in
    record {
      looks = same_at c.loop-place.looks.items c.loop-place.place c.index_mut.result.now c.all_follow_one.new.look c.all_follow_one.ensures.look c.index_mut.ensures.value ∙ inv.looks;
      builds = c.all_follow_one.ensures.builds ∙ inv.builds;
      front = all_compared g.N.Follows.learned c.args.looks.now.items c.loop-place.looks.items c.args.builds.now.items c.loop-place.builds.items c.loop-place.place c.index_mut.result.now inv.looks inv.builds
          (omega (arith, c.loop-place-test.true, c.len-place-end.ensures, ap (λ (ls : List g.row.N.Denot). length ls) inv.looks, c.args.looks.now.ok.0)) c.index_mut.ensures.value inv.front
          (c.if-not-all_follow_one.ensures.follow refl);
    }

pub returns : goal.returns
returns g c = λ e.
    let past : length c.args.looks.now.items ≤ c.loop-place.place = omega (arith, c.loop-place-test.false, c.len-place-end.ensures, c.args.looks.now.ok.0) in
    subst (All (λ (look : g.row.N.Denot). All (g.N.Follows.learned look) c.args.builds.now.items)) (take_all c.loop-place.place c.args.looks.now.items past) c.loop-place.invariant.front
