use Rattle.table_parts.proofs.PrintLemmas.{both_printed}
use Rattle.table_parts.proofs.texts.+texts.Goals as goal

pub print_both-returns : goal.print_both-returns
print_both-returns g t c =
    both_printed c.args.types.now c.args.pages.now c.halves.result.0.now c.halves.result.1.now c.in_ok-first.first c.in_ok-second.second c.chunks_of_both.result
    c.halves.ensures (rw c.in_ok-first.was at c.join-first.ensures.first) (rw c.in_ok-second.was at c.join-first.ensures.second) c.chunks_of_both.ensures
