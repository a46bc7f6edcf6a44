use Rattle.std.proofs.Common.{ap, refl}
use Rattle.topn_sort.specs.Sorting.{BufferState}
use Rattle.topn_sort.proofs.TopLemmas.{given-none, sort-gave}
use Rattle.topn_sort.proofs.sort.SortBufferKernel.give_out.Goals as goal

pub returns-clause-gives : goal.returns-clause-gives
returns-clause-gives c = λ _ B.
    sort-gave c.args.self.now c.give.new.self c.in_ok-give.field-0 B (ap (λ (b : BufferState). b.keys) c.give.ensures.same) c.in_ok-give.ensures.page

pub returns-clause-none : goal.returns-clause-none
returns-clause-none c = λ _. given-none c.args.self.now c.give.new.self c.in_ok-give.field-0 c.args.self.now.rows refl c.in_ok-give.ensures.page
