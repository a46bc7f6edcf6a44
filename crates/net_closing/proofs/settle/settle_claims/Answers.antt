use Rattle.std.proofs.Common.{◌<◌, arith, length}
use Rattle.driver_loop.specs.Ends.{claim_of}
use Rattle.driver_net_laws.specs.Settled.{claims_in}
use Rattle.plan_layout.specs.Pipes.{pipe_view}
use Rattle.net_closing.proofs.BackLemmas.{claims_back, claims_settle, piped, some_if}
use Rattle.net_closing.proofs.settle.settle_claims.Goals as goal

pub stop_claims-requires : goal.stop_claims-requires
stop_claims-requires c =
    let s = c.requires in
    let seats = c.collect_tasks.new.seats in
    let some : 0 < length seats.items = omega (arith, some_if seats.len c.if-is_empty.ensures, seats.ok.0) in
    claims_settle c.args.parts.now (pipe_view c.args.pipe.now) s seats.items
    (piped (λ d. claim_of d.source) s.net.drivers (pipe_view c.args.pipe.now) c.new-seats.result.items seats.items c.new-seats.ensures.items
    (c.in_ok-collect_tasks.ensures.seats claims_in s.net.drivers s.net.left.claims)) some

pub returns-clause-back : goal.returns-clause-back
returns-clause-back c = λ drivers left.
    let s = c.requires in
    let seats = c.collect_tasks.new.seats in
    let some : 0 < length seats.items = omega (arith, some_if seats.len c.if-is_empty.ensures, seats.ok.0) in
    claims_back drivers (pipe_view c.args.pipe.now) seats.items
    (piped (λ d. claim_of d.source) drivers (pipe_view c.args.pipe.now) c.new-seats.result.items c.collect_tasks.new.seats.items c.new-seats.ensures.items
    (c.in_ok-collect_tasks.ensures.seats claims_in drivers left.claims))
    (claims_settle c.args.parts.now (pipe_view c.args.pipe.now) s seats.items
    (piped (λ d. claim_of d.source) s.net.drivers (pipe_view c.args.pipe.now) c.new-seats.result.items seats.items c.new-seats.ensures.items
    (c.in_ok-collect_tasks.ensures.seats claims_in s.net.drivers s.net.left.claims)) some) c.stop_claims.ensures.drawn c.stop_claims.ensures.ended
