use Rattle.sieve_laws.proofs.SureLemmas.{sure}
use Rattle.sieve_laws.proofs.joins.known_domains_are_sure.Goals as goal

pub returns : goal.returns
returns c = sure
