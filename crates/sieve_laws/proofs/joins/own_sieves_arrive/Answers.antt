use Rattle.sieve_laws.proofs.ComingLemmas.{own_arrives}
use Rattle.sieve_laws.proofs.joins.own_sieves_arrive.Goals as goal

pub returns : goal.returns
returns c = own_arrives
