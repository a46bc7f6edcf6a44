use Rattle.std.proofs.Common.{List, Contains, get_or, subst, sym}
use Rattle.lost_row_laws.specs.Domains.{sieve_of}
use Rattle.lost_row_laws.specs.Sieves.{Sieve}
use Rattle.sieve_laws.proofs.ComingLemmas.{own_arrives}
use Rattle.sieve_laws.proofs.SureLemmas.{has_sieve}
use Rattle.sieve_laws.proofs.joins.known_domains_arrive.Goals as goal

pub returns : goal.returns
returns c = λ own at on filters are f here domain known side within o comes run sieves has.
    let s : Sieve = sieve_of (record { column = (get_or on f.pair (0, 0)).0; domain = domain }) in
    let there = subst (λ (all : List Sieve). Contains all s) (sym are) (has_sieve on filters f here domain known) in
    own_arrives own at side s there within o comes run sieves has
