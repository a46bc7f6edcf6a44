use Rattle.driver_ends.proofs.page_joins.join_behind.Goals as goal

pub returns-in-Some-2-clause-joined : goal.returns-in-Some-2-clause-joined
returns-in-Some-2-clause-joined c = tt
