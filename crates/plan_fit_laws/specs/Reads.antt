-- That the tables which a plan reads are there.
use Rattle.std.specs.Prelude.{List}
use Rattle.sql_values.specs.declared.table.Table.{Table}
use Rattle.tree_evaluator.specs.Fits.{IsReadFrom}
use Rattle.plan_run_laws.specs.RunPlans.{RunPlan, scan, values, remote, step, halves, join, union}

-- each scan is of a table that there is, and of columns that it has
abbrev pub ReadsTables : List Table → RunPlan → Type 0
ReadsTables tables (scan id table columns types) = IsReadFrom tables table columns
ReadsTables tables (values id types rows) = Unit {0}
ReadsTables tables (remote id output tasks input) = ReadsTables tables input
ReadsTables tables (step id s input) = ReadsTables tables input
ReadsTables tables (join id kind on left right) = ReadsTables tables left × ReadsTables tables right
ReadsTables tables (halves id source output m h input) = ReadsTables tables input
ReadsTables tables (union id left right) = ReadsTables tables left × ReadsTables tables right
