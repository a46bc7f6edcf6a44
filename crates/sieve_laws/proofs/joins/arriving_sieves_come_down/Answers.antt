use Rattle.sieve_laws.proofs.ComingLemmas.{arriving_comes_down}
use Rattle.sieve_laws.proofs.joins.arriving_sieves_come_down.Goals as goal

pub returns : goal.returns
returns c = arriving_comes_down
