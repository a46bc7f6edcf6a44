use Rattle.plan_docs.specs.Plans.{plan_view}
use Rattle.std.proofs.Common.{map}
use Rattle.tree_evaluator.specs.Stops.{rows_of_table}
use Rattle.query_runner.proofs.PassedLemmas.{run_done}
use Rattle.query_runner.proofs.results.run_of.Goals as goal

pub returns : goal.returns
returns g c =
    run_done (plan_view c.args.plan.now) c.args.tables.now _ c.run_workers.result c.in-Ok-build.ensures c.requires.few c.counts_are_allowed.ensures
    (c.run_workers.ensures.answer (plan_view c.args.plan.now) (map rows_of_table c.args.tables.now) c.in-Ok-build.ensures) c.run_workers.ensures.passed
