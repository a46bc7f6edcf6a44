use Rattle.sieve_laws.proofs.SplitLemmas.{finished_both, linked_both, told_both}
use Rattle.sieve_laws.proofs.filters.operators_are_cut_in_two.Goals as goal

pub returns-clause-linked : goal.returns-clause-linked
returns-clause-linked g c = linked_both g.O.Operator

pub returns-clause-told : goal.returns-clause-told
returns-clause-told g c = told_both g.O.Operator

pub returns-clause-finished : goal.returns-clause-finished
returns-clause-finished g c = finished_both g.O.Operator
