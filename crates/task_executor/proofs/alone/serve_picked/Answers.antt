use Rattle.task_executor.proofs.LaterLemmas.{all_same, all_then}
use Rattle.task_executor.proofs.alone.serve_picked.Goals as goal

pub loop-pick-init : goal.loop-pick-init
loop-pick-init g c = record { later = all_same c.args.drivers.now.items; unfailed = c.requires }

pub returns-in_err-serve-clause-later : goal.returns-in_err-serve-clause-later
returns-in_err-serve-clause-later g c =
    all_then c.args.drivers.now.items c.loop-pick.drivers.items c.serve.new.drivers.items c.loop-pick.invariant.unfailed c.loop-pick.invariant.later c.serve.ensures.later

pub loop-pick-preserved : goal.loop-pick-preserved
loop-pick-preserved g c = record {
  later = all_then c.args.drivers.now.items c.loop-pick.drivers.items c.serve.new.drivers.items c.loop-pick.invariant.unfailed c.loop-pick.invariant.later c.serve.ensures.later;
  unfailed = c.in_ok-serve.ensures.done;
}
