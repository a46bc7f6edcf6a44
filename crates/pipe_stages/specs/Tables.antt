-- The types of pipes by their places.
use Rattle.std.specs.Prelude.{ℕ, List, [], option_map, slice_get, unwrap_or}
use Rattle.driver_net_laws.specs.Types.{PipeTypes}
use Rattle.pipe_stages.specs.declared.table.PipeTypes as declared

abbrev pub types_view : declared.PipeTypes → PipeTypes
types_view types = record { taken = types.taken; before = types.before; halved = types.halved; given = types.given }

abbrev pub no_types : PipeTypes
no_types = record { taken = []; before = []; halved = []; given = [] }

-- those at a place of a list; where there are none, no columns
abbrev pub types_in : List declared.PipeTypes → ℕ → PipeTypes
types_in list at = unwrap_or (option_map types_view (slice_get list at)) no_types
