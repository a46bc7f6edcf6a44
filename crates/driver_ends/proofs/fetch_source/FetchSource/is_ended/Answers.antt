use Rattle.std.proofs.Common.{rules}
use Rattle.std.proofs.lemmas.List.{nil_from_length}
use Rattle.driver_ends.proofs.fetch_source.FetchSource.is_ended.Goals as goal

pub returns-then-is_ended-clause-ended : goal.returns-then-is_ended-clause-ended
returns-then-is_ended-clause-ended g c = search (rules, nil_from_length)

pub returns-then-is_ended-clause-is : goal.returns-then-is_ended-clause-is
returns-then-is_ended-clause-is g c = search rules
