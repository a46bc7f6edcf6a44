use Rattle.std.proofs.Common.{drop}
use Rattle.std.proofs.lemmas.List.{at_drop_all}
use Rattle.pipe_stages.proofs.FrontLemmas.{all_fronts}
use Rattle.pipe_stages.proofs.fronts.front_stages.Goals as goal

pub returns-clause-are : goal.returns-clause-are
returns-clause-are c = λ net has.
    let filters = c.args.filters.now in
    let none = at_drop_all (λ fs. fs) filters c.loop-filter.filter-index c.loop-filter-test.false in
    all_fronts c.args.cells.now c.args.taken.now filters (drop c.loop-filter.filter-index filters) c.loop-filter.stages.items none
    c.loop-filter.invariant net has
