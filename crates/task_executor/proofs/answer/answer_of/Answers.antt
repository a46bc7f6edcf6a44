use Rattle.std.proofs.Common.{rules}
use Rattle.task_executor.specs.Nets.{NetState}
use Rattle.task_executor.proofs.EndLemmas.{net_after, run_fails, run_gives}
use Rattle.task_executor.proofs.answer.answer_of.Goals as goal

pub close-requires-clause-net : goal.close-requires-clause-net
close-requires-clause-net g c =
    let net = c.requires.net in
    net_after net.1 (record { plan = c.args.plan.now; pipes = c.args.pipes.now; drivers = net.0 }) c.args.drivers.items net.2 net.3 c.requires.whole

pub returns-clause-answer : goal.returns-clause-answer
returns-clause-answer g c before tables is later =
    run_gives tables (record { plan = c.args.plan.now; pipes = c.args.pipes.now; drivers = before }) c.args.drivers.items c.in-Ok.closed.rows c.in-Ok-rows_of.rows
    c.plans_give.ensures is later c.requires.whole (c.requires.finished (search rules)) c.in-Ok.ensures.settled c.in-Ok.ensures.rows c.in-Ok-rows_of.ensures

pub returns-clause-passed : goal.returns-clause-passed
returns-clause-passed g c before later = record {
  after = c.args.drivers.items;
  later = later;
  whole = c.requires.whole;
  finished = c.requires.finished (search rules);
  settled = c.in-Ok.ensures.settled;
  are = c.in-Ok.ensures.passed;
}

pub returns-in-Some-clause-answer : goal.returns-in-Some-clause-answer
returns-in-Some-clause-answer g c before tables is later =
    run_fails tables (record { plan = c.args.plan.now; pipes = c.args.pipes.now; drivers = before }) c.args.drivers.items c.in-Ok.closed.rows c.in-Some.fault
    c.plans_fail.ensures is later c.in-Ok.ensures.settled c.in-Ok.ensures.rows (search (rules, c.requires.failing))
