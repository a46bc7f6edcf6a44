use Rattle.std.proofs.Common.{List, ◌++◌, map, take}
use Rattle.sql_values.specs.declared.value.Value.{Value}
use Rattle.sql_values.specs.Cells.{cell}
use Rattle.dyn_filter.specs.Domains.{IsDomainOf}
use Rattle.dyn_filter.proofs.builder.DomainBuilder.add_column.Given as goal

-- the domain is that of the values before and of the rows that were gone through
abbrev pub invariant-loop-place : goal.invariant-loop-place
invariant-loop-place l =
    (values : List Value) → IsDomainOf values l.fn.self → IsDomainOf (values ++ map (λ row. cell row l.column) (take l.place l.page.rows)) l.self
