use Rattle.std.proofs.Common.{map}
use Rattle.plan_layout.specs.Pipes.{pipe_view}
use Rattle.plan_wiring.specs.Shares.{shares_of}
use Rattle.plan_wiring.specs.Wirings.{bells_of}
use Rattle.plan_wiring.proofs.BellLemmas.{ring_more}
use Rattle.plan_wiring.proofs.ShareLemmas.{share_more}
use Rattle.plan_wiring.proofs.wiring.shares_of.Goals as goal

pub loop-own-preserved : goal.loop-own-preserved
loop-own-preserved c =
    let layout = map pipe_view c.args.layout.now in (
      share_more layout c.args.tables.now c.args.split (shares_of layout c.args.tables.now c.args.split 0 layout) c.args.layout.now c.loop-own.own c.index-layout-own.result c.loop-own.pipes.items
          c.push.new.self.items c.in_ok-share_of.field-0 c.loop-own-test.true c.index-layout-own.is c.loop-own.invariant.0 c.in_ok-push.ensures.items c.in_ok-share_of.ensures.is,
      ring_more bells_of c.args.bells.now.next c.loop-own.bells.next c.share_of.new.bells.next c.loop-own.pipes.items c.push.new.self.items c.in_ok-share_of.field-0
          c.in_ok-push.ensures.items c.loop-own.invariant.1 c.in_ok-share_of.ensures.bells,
    )
