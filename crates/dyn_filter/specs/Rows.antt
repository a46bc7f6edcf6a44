-- The rows that a domain lets through.
use Rattle.std.specs.Prelude.{ℕ, Bool}
use Rattle.sql_values.specs.Cells.{cell}
use Rattle.operator_core.specs.Rows.{Row}
use Rattle.dyn_filter.specs.declared.domain.Domain.{Domain}
use Rattle.dyn_filter.specs.Domains.{passes}

-- the value in the column of the row passes
abbrev pub row_passes : Domain → ℕ → Row → Bool
row_passes domain column row = passes domain (cell row column)
