use Rattle.std.proofs.Common.{◌<◌, arith, map}
use Rattle.plan_layout.specs.Pipes.{pipe_view}
use Rattle.std.proofs.lemmas.List.{length-map}
use Rattle.std.proofs.lemmas.Option.{slice_get_within}
use Rattle.net_closing.proofs.BackLemmas.{next_back}
use Rattle.net_closing.proofs.settle.settle_all.Goals as goal

pub loop-at-preserved : goal.loop-at-preserved
loop-at-preserved c =
    let inv = c.loop-at.invariant in
    let went = c.in_ok-settle_source.ensures in
    record {
      left = λ drivers parts. went.left drivers (inv.left drivers parts);
      back = λ drivers parts. next_back (map pipe_view c.args.layout.now) drivers c.loop-at.at (inv.back drivers parts) (went.back drivers (inv.left drivers parts));
    }

pub returns-clause-back : goal.returns-clause-back
returns-clause-back c = λ drivers parts at pipe there.
    let lt : at < c.loop-at.at = omega (arith, c.loop-at-test.false, slice_get_within (map pipe_view c.args.layout.now) at pipe there, length-map c.args.layout.now pipe_view) in
    c.loop-at.invariant.back drivers parts at lt pipe there
