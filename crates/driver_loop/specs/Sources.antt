-- Where the pages of a driver come from, as it is seen.
use Rattle.split_source.specs.Scans.{ScanState}
use Rattle.driver_ends.specs.Fetching.{FetchingState}
use Rattle.driver_ends.specs.Sources.{LocalState, RemoteState}
use Rattle.driver_loop.specs.RowsSources.{RowsState}

-- splits of a table; rows of the plan; an edge that it is the only taker of, at once or through a fetch; or one that it
-- is one of many takers of
pub data Source : Type 0 where
  Scan : ScanState → Source
  Rows : RowsState → Source
  Local : LocalState → Source
  Remote : RemoteState → Source
  Fetch : FetchingState → Source
