-- What a `RowsSource` keeps.
use Rattle.std.specs.Prelude.{◌≡◌, [], true, take}
use Rattle.row_ops.specs.ValueRows.{rows_to_give}
use Rattle.driver_loop.specs.RowsSources.{RowsState}
use Rattle.driver_loop.specs.declared.rows_source.RowsSource.TheInside.{Inside}

abbrev pub rows_view : Inside → RowsState
rows_view s = record { rows = s.op.rows; given = take s.op.given s.op.rows; is_ended = s.is_ended }

abbrev pub IsRows : Inside → Type 0
IsRows s = s.is_ended ≡ true → rows_to_give s.op ≡ []
