use Rattle.std.proofs.Common.{◌≤◌, subst, ◌∙◌, IsPermutation}
use Rattle.std.specs.List.{range_with_len}
use Rattle.split_source.specs.Seats.{numbers_of}
use Rattle.split_source.proofs.NumberLemmas.{first_among}
use Rattle.split_source.proofs.settle.stop_claims.Goals as goal

pub returns-clause-drawn : goal.returns-clause-drawn
returns-clause-drawn c claims all =
    let d = c.gather.ensures.drawn in
    first_among (numbers_of c.args.seats.items) d.next claims.of.count (subst (λ n. d.next ≤ n) (c.gather.ensures.count claims all) d.within) d.same

pub returns-clause-ended : goal.returns-clause-ended
returns-clause-ended c claims all ended =
    let d = c.gather.ensures.drawn in
    subst (λ n. IsPermutation (numbers_of c.args.seats.items) (range_with_len 0 n)) (d.last ended ∙ c.gather.ensures.count claims all) d.same
