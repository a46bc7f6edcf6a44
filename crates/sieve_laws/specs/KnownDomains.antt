-- What is known of the domains of a join's dynamic filters.
use Rattle.std.specs.Prelude.{◌≡◌, ℕ, ◌<◌, List, [], ◌∷◌, ◌++◌, Option, Some, None, get_or, length, map}
use Rattle.sql_values.specs.Cells.{cell}
use Rattle.bag_laws.specs.Gather.{gather}
use Rattle.plan_run_laws.specs.Nets.{of_tasks}
use Rattle.plan_run_laws.specs.Stops.{AllSet, StoppedPipe}
use Rattle.dyn_filter.specs.declared.domain.Domain.{Domain}
use Rattle.dyn_filter.specs.Domains.{IsDomainOf}
use Rattle.lost_row_laws.specs.Domains.{sieve_of}
use Rattle.lost_row_laws.specs.Sieves.{Sieve}

-- a dynamic filter of a join: the place of the pair of columns, and the domain of the right side's values, once it is known
pub record JoinFilter : Type 0 where
  pub pair : ℕ
  pub known : Option Domain

-- a domain that is known is that of the right side's values in all tasks, which are whole
pub record IsKnownOf (on : List (ℕ × ℕ)) (n : ℕ) (right : StoppedPipe) (f : JoinFilter) (domain : Domain) : Type 0 where
  pub pair : f.pair < length on
  pub done : AllSet n right.drivers right.done
  pub of : IsDomainOf (map (λ row. cell row (get_or on f.pair (0, 0)).1) (gather n (of_tasks right.drivers right.gave))) domain

abbrev pub AreKnownOf : List (ℕ × ℕ) → ℕ → StoppedPipe → List JoinFilter → Type 0
AreKnownOf on n right [] = Unit {0}
AreKnownOf on n right (f ∷ filters) = ((domain : Domain) → f.known ≡ Some domain → IsKnownOf on n right f domain) × AreKnownOf on n right filters

-- the sieve of a domain that is known, over the left column of the pair
abbrev pub sieve_known : ℕ → Option Domain → List Sieve
sieve_known column None = []
sieve_known column (Some domain) = sieve_of (record { column = column; domain = domain }) ∷ []

-- the sieves of a join
abbrev pub sieves_of : List (ℕ × ℕ) → List JoinFilter → List Sieve
sieves_of on [] = []
sieves_of on (f ∷ filters) = sieve_known (get_or on f.pair (0, 0)).0 f.known ++ sieves_of on filters
