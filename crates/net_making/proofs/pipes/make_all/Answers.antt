use Rattle.std.proofs.Common.{arith, subst}
use Rattle.std.proofs.lemmas.List.{length-map}
use Rattle.std.specs.Prelude.{All}
use Rattle.net_parts.specs.Pipes.{pipe_view}
use Rattle.net_parts.specs.Nets.{AreDriversOf}
use Rattle.net_parts.specs.Makings.{InNets}
use Rattle.net_parts.proofs.EachLemmas.{mapped_at}
use Rattle.net_parts.proofs.StockLemmas.{stocked_left}
use Rattle.net_making.specs.Slots.{IsNew}
use Rattle.net_making.proofs.LaneLemmas.{Made, Pipes, all_made, all_new, answered, no_pipes, one_pipe}
use Rattle.net_making.proofs.pipes.make_all.Goals as goal

pub loop-own-init : goal.loop-own-init
loop-own-init g c = no_pipes c.args.making.now c.args.stock c.in_ok-slots.slots

pub add_pipe-requires-clause-stocked : goal.add_pipe-requires-clause-stocked
add_pipe-requires-clause-stocked g c = stocked_left c.args.making.now c.args.stock c.loop-own.stock c.loop-own.invariant.left c.requires.stocked

pub add_pipe-requires-clause-there : goal.add_pipe-requires-clause-there
add_pipe-requires-clause-there g c = mapped_at pipe_view c.args.making.now.pipes.now c.loop-own.own c.index-pipes-own.result c.loop-own-test.true c.index-pipes-own.is

pub loop-own-preserved : goal.loop-own-preserved
loop-own-preserved g c =
    one_pipe c.args.making.now c.loop-own.own (pipe_view c.index-pipes-own.result) c.args.stock c.loop-own.stock c.add_pipe.new.stock c.in_ok-slots.slots c.loop-own.slots c.add_pipe.new.slots
    (mapped_at pipe_view c.args.making.now.pipes.now c.loop-own.own c.index-pipes-own.result c.loop-own-test.true c.index-pipes-own.is)
    c.loop-own.invariant c.in_ok-add_pipe.ensures.left c.in_ok-add_pipe.ensures.grown c.in_ok-add_pipe.ensures.added

pub returns-clause-fresh : goal.returns-clause-fresh
returns-clause-fresh g c =
    let m = c.args.making.now in
    let made = subst (λ old. Made m (Pipes m c.loop-own.own) c.args.stock c.loop-own.stock old c.loop-own.slots) c.in_ok-slots.ensures c.loop-own.invariant in
    answered (λ v. v.items) c.into_items.result c.loop-own.slots (All IsNew) c.into_items.ensures
    (λ ds are. all_new m c.in_ok-count.count c.loop-own.own c.args.stock c.loop-own.stock c.loop-own.slots ds made are)

pub returns-clause-are : goal.returns-clause-are
returns-clause-are g c =
    let m = c.args.making.now in
    let made = subst (λ old. Made m (Pipes m c.loop-own.own) c.args.stock c.loop-own.stock old c.loop-own.slots) c.in_ok-slots.ensures c.loop-own.invariant in
    answered (λ v. v.items) c.into_items.result c.loop-own.slots (λ ds. InNets m c.args.stock (λ net. AreDriversOf net ds)) c.into_items.ensures
    (λ ds are. all_made m c.in_ok-count.count c.loop-own.own c.args.stock c.loop-own.stock c.loop-own.slots ds made are c.requires.can
    (omega (arith, c.loop-own-test.false, length-map m.pipes.now pipe_view)) c.in_ok-count.ensures)
