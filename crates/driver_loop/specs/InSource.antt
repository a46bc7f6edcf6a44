-- What a `Source` keeps.
use Rattle.driver_loop.specs.Sources.{Source, Scan, Rows, Local, Remote, Fetch}
use Rattle.driver_loop.specs.declared.source.SourceKind.{SourceKind}
use Rattle.driver_loop.specs.declared.source.SourceKind.TheVariants as kind

abbrev pub source_view : {C : Type 0} → SourceKind C → Source
source_view (kind.Scan scan) = Scan scan
source_view (kind.Rows rows) = Rows rows
source_view (kind.Local local) = Local local
source_view (kind.Remote remote) = Remote remote
source_view (kind.Fetch fetch) = Fetch fetch
