use Rattle.net_parts.proofs.BuildLemmas.{all_parts}
use Rattle.net_parts.proofs.builds.build_filters.Goals as goal

pub returns-clause-are : goal.returns-clause-are
returns-clause-are c = λ net has.
    all_parts c.args.cells.now c.args.own c.args.task c.args.on.now c.args.filters.now c.loop-place.place c.loop-place.made.items
    c.loop-place-test.false c.loop-place.invariant net has
