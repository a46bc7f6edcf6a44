use Rattle.std.proofs.Common.{sym}
use Rattle.task_executor.proofs.EndLemmas.{new_unfailed, of_plan, own, passed_of_net}
use Rattle.task_executor.proofs.alone.run_alone.Goals as goal

pub drive_whole-requires : goal.drive_whole-requires
drive_whole-requires g c = (c.type_bounds.sync-R, new_unfailed c.net.inside.drivers.items c.net.invariant.over.1.fresh)

pub answer_of-requires-clause-net : goal.answer_of-requires-clause-net
answer_of-requires-clause-net g c = (c.net.inside.drivers.items, c.net.invariant.tables, c.net.invariant.over, c.drive_whole.ensures.later)

pub returns-clause-answer : goal.returns-clause-answer
returns-clause-answer g c plan tables is =
    of_plan plan tables c.args.net (record { plan = c.net.inside.plan.now; pipes = c.net.inside.pipes.now; drivers = c.net.inside.drivers.items }) c.answer_of.result (sym c.net.view_is) is
    (c.answer_of.ensures.answer c.net.inside.drivers.items tables (own plan tables _ _ (sym c.net.view_is) is) c.drive_whole.ensures.later)

pub returns-clause-passed : goal.returns-clause-passed
returns-clause-passed g c =
    passed_of_net c.args.net (record { plan = c.net.inside.plan.now; pipes = c.net.inside.pipes.now; drivers = c.net.inside.drivers.items }) c.answer_of.result (sym c.net.view_is)
    (c.answer_of.ensures.passed c.net.inside.drivers.items c.drive_whole.ensures.later)
