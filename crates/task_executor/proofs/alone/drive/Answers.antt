use Rattle.task_executor.proofs.LaterLemmas.{all_then}
use Rattle.task_executor.proofs.alone.drive.Goals as goal

pub loop-preserved : goal.loop-preserved
loop-preserved g c = record {
  later = all_then c.args.drivers.now.items c.loop.drivers.items c.serve_all.new.drivers.items c.loop.invariant.unfailed c.loop.invariant.later c.serve_all.ensures.later;
  unfailed = c.in_ok-serve_all.ensures.done;
}

pub returns-in_err-serve_all-clause-later : goal.returns-in_err-serve_all-clause-later
returns-in_err-serve_all-clause-later g c =
    all_then c.args.drivers.now.items c.loop.drivers.items c.serve_all.new.drivers.items c.loop.invariant.unfailed c.loop.invariant.later c.serve_all.ensures.later
