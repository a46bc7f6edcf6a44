-- The seats of edges that the source and the target of a driver hand back.
use Rattle.std.specs.Prelude.{◌≡◌, List, [], true, Option, Some, None, IfSome, map}
use Rattle.operator_core.specs.Rows.{Row}
use Rattle.output_buffer.specs.Seats.{GatherPutState, GatherTakeState, SpreadPutState, SpreadTakeState}
use Rattle.driver_ends.specs.Deals.{HasDealtAll, HasDealtFirst, IsDealt, KeepsDeal, rows_dealt}
use Rattle.driver_ends.specs.Targets.{HasSent, HavePutAll, HavePutFirst, IsFinished, KeepsTarget}
use Rattle.driver_loop.specs.declared.target.Target.{Target}
use Rattle.driver_loop.specs.declared.target.Target.TheVariants.{Result, Build, Put, Deal}
use Rattle.driver_loop.specs.Sources.{Source, Scan, Rows, Local, Remote, Fetch}
use Rattle.driver_loop.specs.Builds.{KnowsOwnDomains, KnowsOwnSource}
use Rattle.driver_loop.specs.Ends.{target_finished}

-- the seat by which it takes from an edge that is its own
abbrev pub gather_take_of : Source → Option GatherTakeState
gather_take_of (Scan scan) = None
gather_take_of (Rows rows) = None
gather_take_of (Local local) = Some local.seat
gather_take_of (Remote remote) = None
gather_take_of (Fetch fetch) = Some fetch.local.seat

-- the seat by which it takes from an edge of many takers
abbrev pub spread_take_of : Source → Option SpreadTakeState
spread_take_of (Scan scan) = None
spread_take_of (Rows rows) = None
spread_take_of (Local local) = None
spread_take_of (Remote remote) = Some remote.seat
spread_take_of (Fetch fetch) = None

-- the seats by which a target puts to edges of one taker
abbrev pub puts_of : Target → List GatherPutState
puts_of (Result result) = []
puts_of (Build build) = []
puts_of (Put put) = map (λ outlet. outlet.seat) put.outlets
puts_of (Deal deal) = []

-- the seat by which it puts to an edge of many takers
abbrev pub deal_of : Target → Option SpreadPutState
deal_of (Result result) = None
deal_of (Build build) = None
deal_of (Put put) = None
deal_of (Deal deal) = Some deal.seat

-- what these seats of a target put is what they have of the first of the rows that it was given
abbrev pub PutFirst : Target → List GatherPutState → Option SpreadPutState → Type 0
PutFirst (Result result) puts deal = Unit {0}
PutFirst (Build build) puts deal = Unit {0}
PutFirst (Put put) puts deal = (rows : List Row) → HasSent put rows → HavePutFirst put.kind rows puts
PutFirst (Deal own) puts deal = IfSome deal (HasDealtFirst (rows_dealt own))

-- they put all that they have of the rows that it was given, and their Ends
abbrev pub PutAll : Target → List GatherPutState → Option SpreadPutState → Type 0
PutAll (Result result) puts deal = Unit {0}
PutAll (Build build) puts deal = Unit {0}
PutAll (Put put) puts deal = (rows : List Row) → HasSent put rows → HavePutAll put.kind rows puts
PutAll (Deal own) puts deal = IfSome deal (HasDealtAll (rows_dealt own))

-- what a target knows of its cell and those of its filters, and of the edges that it is through with
abbrev pub KnowsEnds : Target → Type 0
KnowsEnds (Result result) = Unit {0}
KnowsEnds (Build build) = KnowsOwnSource build × KnowsOwnDomains build
KnowsEnds (Put put) = target_finished (Put put) ≡ true → IsFinished put
KnowsEnds (Deal deal) = target_finished (Deal deal) ≡ true → IsDealt deal

-- what a target over edges keeps wherever it stands: no End before it was told to finish, nor before a page
-- that it holds
abbrev pub KeepsEnds : Target → Type 0
KeepsEnds (Result result) = Unit {0}
KeepsEnds (Build build) = Unit {0}
KeepsEnds (Put put) = KeepsTarget put
KeepsEnds (Deal deal) = KeepsDeal deal
