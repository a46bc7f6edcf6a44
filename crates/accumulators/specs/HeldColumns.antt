-- What is kept of a call, from the vectors that stand for it in memory.
use Rattle.std.specs.Prelude.{[], map, replicate}
use Rattle.sql_values.specs.declared.types.SqlType.TheVariants.{Boolean}
use Rattle.sql_values.specs.declared.relational.Call.TheVariants as call_is
use Rattle.accumulators.specs.declared.call_column.HeldColumn.{HeldColumn}
use Rattle.accumulators.specs.declared.call_column.HeldColumn.TheVariants.{CountAll, Count, Sum, Min, Max, Avg}
use Rattle.accumulators.specs.HeldStates.{average_columns, count_columns, sum_columns, value_columns}
use Rattle.accumulators.specs.KeptColumns.{KeptColumn}

abbrev pub held_column : HeldColumn → KeptColumn
held_column (CountAll groups) = record { call = call_is.CountAll; kind = Boolean; kept = replicate groups [] }
held_column (Count column counts) = record { call = call_is.Count column; kind = Boolean; kept = map count_columns counts.items }
held_column (Sum column kind sums) = record { call = call_is.Sum column; kind = kind; kept = map sum_columns sums.items }
held_column (Min column least) = record { call = call_is.Min column; kind = Boolean; kept = map value_columns least.items }
held_column (Max column most) = record { call = call_is.Max column; kind = Boolean; kept = map value_columns most.items }
held_column (Avg column kind averages) = record { call = call_is.Avg column; kind = kind; kept = map average_columns averages.items }
