use Rattle.std.proofs.Common.{◌∙◌, refl}
use Rattle.task_executor.proofs.LaterLemmas.{all_same, all_then}
use Rattle.task_executor.proofs.TurnLemmas.{later_level}
use Rattle.task_executor.proofs.alone.serve_all.Goals as goal

pub loop-place-init : goal.loop-place-init
loop-place-init g c = record { later = all_same c.args.drivers.now.items; unfailed = c.requires; level = refl }

pub returns-in_err-serve-clause-later : goal.returns-in_err-serve-clause-later
returns-in_err-serve-clause-later g c =
    all_then c.args.drivers.now.items c.loop-place.drivers.items c.serve.new.drivers.items c.loop-place.invariant.unfailed c.loop-place.invariant.later c.serve.ensures.later

pub loop-place-preserved : goal.loop-place-preserved
loop-place-preserved g c = record {
  later = all_then c.args.drivers.now.items c.loop-place.drivers.items c.serve.new.drivers.items c.loop-place.invariant.unfailed c.loop-place.invariant.later c.serve.ensures.later;
  unfailed = c.in_ok-serve.ensures.done;
  level = later_level c.loop-place.drivers.items c.serve.new.drivers.items c.serve.ensures.later ∙ c.loop-place.invariant.level;
}
