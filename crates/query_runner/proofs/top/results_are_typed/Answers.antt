use Rattle.plan_docs.specs.Plans.{plan_view}
use Rattle.query_runner.proofs.TypeLemmas.{result_typed}
use Rattle.query_runner.proofs.top.results_are_typed.Goals as goal

pub returns : goal.returns
returns c = λ held job asked text.
    result_typed held job (plan_view c.args.plan.now) c.args.tables.now c.args.text.now c.requires.read c.requires.columns c.requires.fit asked text
