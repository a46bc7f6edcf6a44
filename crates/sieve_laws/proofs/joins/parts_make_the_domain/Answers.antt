use Rattle.sieve_laws.proofs.SureLemmas.{domain_of_parts}
use Rattle.sieve_laws.proofs.joins.parts_make_the_domain.Goals as goal

pub returns : goal.returns
returns c = domain_of_parts
