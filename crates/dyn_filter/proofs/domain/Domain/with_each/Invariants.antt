use Rattle.std.proofs.Common.{List, ◌++◌, take}
use Rattle.sql_values.specs.declared.value.Value.{Value}
use Rattle.dyn_filter.specs.Domains.{IsDomainOf}
use Rattle.dyn_filter.proofs.domain.Domain.with_each.Given as goal

-- the domain is that of the values before and of those that were gone through
abbrev pub invariant-loop-value : goal.invariant-loop-value
invariant-loop-value l = (values : List Value) → IsDomainOf values l.fn.self → IsDomainOf (values ++ take l.value-index l.more) l.domain
