-- What the sources of drivers gave, and their targets were given.
use Rattle.std.specs.Prelude.{◌≡◌, ◌+◌, ℕ, List, [], Bool, true, false, not, Option, Some, None}
use Rattle.relation_laws.specs.Sorts.{IsBeginning}
use Rattle.operator_core.specs.Rows.{Row}
use Rattle.stage_moves.specs.Looks.{Looks, no_looks}
use Rattle.split_source.specs.Scans.{given}
use Rattle.split_source.specs.Seats.{SeatState, new_seat}
use Rattle.driver_ends.specs.Deals.{deal_dues, rows_dealt}
use Rattle.driver_ends.specs.Ends.{HasDealt, deal_as_made, deal_finished, deal_looks, deal_wants, local_as_made, local_ended, local_looks, local_taken, remote_as_made, remote_ended, remote_looks, remote_taken}
use Rattle.driver_ends.specs.Ends.{put_as_made, put_finished, put_looks, put_wants}
use Rattle.driver_ends.specs.Fetching.{HasFetchTaken, IsFetchEnded, fetch_as_made, fetch_dues, fetch_ended, fetch_looks, fetch_misses, fetch_taken}
use Rattle.driver_ends.specs.Sources.{HasLocalTaken, HasRemoteTaken, IsLocalEnded, IsRemoteEnded, local_dues, remote_dues}
use Rattle.driver_ends.specs.Targets.{HasSent, dues as put_dues}
use Rattle.driver_loop.specs.declared.target.Target.{Target}
use Rattle.driver_loop.specs.declared.target.Target.TheVariants.{Result, Build, Put, Deal}
use Rattle.driver_loop.specs.Sources.{Source, Scan, Rows, Local, Remote, Fetch}
use Rattle.driver_loop.specs.Builds.{build_dues, build_looks, build_made, build_made_or_lost}

-- the rows that a source gave
abbrev pub rows_taken : Source → List Row
rows_taken (Scan scan) = given scan
rows_taken (Rows rows) = rows.given
rows_taken (Local local) = local_taken local
rows_taken (Remote remote) = remote_taken remote
rows_taken (Fetch fetch) = fetch_taken fetch

-- no page comes any more
abbrev pub has_ended : Source → Bool
has_ended (Scan scan) = scan.seat.is_ended
has_ended (Rows rows) = rows.is_ended
has_ended (Local local) = local_ended local
has_ended (Remote remote) = remote_ended remote
has_ended (Fetch fetch) = fetch_ended fetch

-- it as it was made
abbrev pub source_made : Source → Source
source_made (Scan scan) = Scan (record scan { seat = new_seat scan.seat.claims; left = 0 })
source_made (Rows rows) = Rows (record rows { given = []; is_ended = false })
source_made (Local local) = Local (local_as_made local)
source_made (Remote remote) = Remote (remote_as_made remote)
source_made (Fetch fetch) = Fetch (fetch_as_made fetch)

-- what is known of its looks: a scan, and rows of its own, never wait
abbrev pub source_looks : Source → Looks
source_looks (Scan scan) = no_looks
source_looks (Rows rows) = no_looks
source_looks (Local local) = local_looks local
source_looks (Remote remote) = remote_looks remote
source_looks (Fetch fetch) = fetch_looks fetch

-- how often it asked in vain where nobody rings: only one that fetches does
abbrev pub source_misses : Source → ℕ
source_misses (Scan scan) = 0
source_misses (Rows rows) = 0
source_misses (Local local) = 0
source_misses (Remote remote) = 0
source_misses (Fetch fetch) = fetch_misses fetch

-- how often this bell was to be rung for what it took
abbrev pub source_dues : Source → ℕ → ℕ
source_dues (Scan scan) bell = 0
source_dues (Rows rows) bell = 0
source_dues (Local local) bell = local_dues local bell
source_dues (Remote remote) bell = remote_dues remote bell
source_dues (Fetch fetch) bell = fetch_dues fetch bell

-- where it gives no page: a scan, and rows of its own, have ended, and one over an edge has no page now
abbrev pub IsOut : Source → Type 0
IsOut (Scan scan) = scan.seat.is_ended ≡ true
IsOut (Rows rows) = rows.is_ended ≡ true
IsOut (Local local) = local.inbox ≡ None
IsOut (Remote remote) = remote.inbox ≡ None
IsOut (Fetch fetch) = fetch.pages ≡ []

-- where it gives a page: a scan, and rows of its own, have ended as before
abbrev pub EndsAsBefore : Bool → Source → Type 0
EndsAsBefore ended (Scan scan) = scan.seat.is_ended ≡ ended
EndsAsBefore ended (Rows rows) = rows.is_ended ≡ ended
EndsAsBefore ended (Local local) = Unit {0}
EndsAsBefore ended (Remote remote) = Unit {0}
EndsAsBefore ended (Fetch fetch) = Unit {0}

-- no row is left: of an edge every End was taken, or its own, and every page was handed on
abbrev pub IsDrained : Source → Type 0
IsDrained (Scan scan) = scan.left ≡ 0
IsDrained (Rows rows) = rows.given ≡ rows.rows
IsDrained (Local local) = IsLocalEnded local
IsDrained (Remote remote) = IsRemoteEnded remote
IsDrained (Fetch fetch) = IsFetchEnded fetch

-- rows of its own are given from the first one on, and those of an edge as they were taken there
abbrev pub IsBegun : Source → Type 0
IsBegun (Scan scan) = Unit {0}
IsBegun (Rows rows) = IsBeginning rows.given rows.rows
IsBegun (Local local) = HasLocalTaken local (local_taken local)
IsBegun (Remote remote) = HasRemoteTaken remote (remote_taken remote)
IsBegun (Fetch fetch) = HasFetchTaken fetch (fetch_taken fetch)

-- the seat by which it claims splits
abbrev pub claim_of : Source → Option SeatState
claim_of (Scan scan) = Some scan.seat
claim_of (Rows rows) = None
claim_of (Local local) = None
claim_of (Remote remote) = None
claim_of (Fetch fetch) = None

-- A target was given these rows. One that spreads them over edges has no list of them, but each edge has what it has
-- of one.
abbrev pub was_given : Target → List Row → Type 0
was_given (Result result) rows = rows ≡ result.rows
was_given (Build build) rows = rows ≡ build.source.rows
was_given (Put put) rows = HasSent put rows
was_given (Deal deal) rows = HasDealt deal rows

-- what it was given is one list
abbrev pub HasOneList : Target → Type 0
HasOneList (Result result) = Unit {0}
HasOneList (Build build) = Unit {0}
HasOneList (Put put) = ⊥
HasOneList (Deal deal) = Unit {0}

-- that list; none where there is not one
abbrev pub rows_given : Target → List Row
rows_given (Result result) = result.rows
rows_given (Build build) = build.source.rows
rows_given (Put put) = []
rows_given (Deal deal) = rows_dealt deal

-- it takes a page now
abbrev pub target_wants : Target → Bool
target_wants (Result result) = not result.is_told
target_wants (Build build) = not build.is_told
target_wants (Put put) = put_wants put
target_wants (Deal deal) = deal_wants deal

-- it was told to finish
abbrev pub is_told : Target → Bool
is_told (Result result) = result.is_told
is_told (Build build) = build.is_told
is_told (Put put) = put.is_told
is_told (Deal deal) = deal.is_told

-- nothing is left to do: a build is published, and edges have their pages and their Ends
abbrev pub target_finished : Target → Bool
target_finished (Result result) = result.is_told
target_finished (Build build) = build.is_published
target_finished (Put put) = put_finished put
target_finished (Deal deal) = deal_finished deal

-- it as it was made
abbrev pub target_made : Target → Target
target_made (Result result) = Result (record result { rows = []; is_told = false })
target_made (Build build) = Build (build_made build)
target_made (Put put) = Put (put_as_made put)
target_made (Deal deal) = Deal (deal_as_made deal)

-- it as it was made, but that its rows are lost where they are
abbrev pub target_made_or_lost : Target → Target
target_made_or_lost (Result result) = Result (record result { rows = []; is_told = false })
target_made_or_lost (Build build) = Build (build_made_or_lost build)
target_made_or_lost (Put put) = Put (put_as_made put)
target_made_or_lost (Deal deal) = Deal (deal_as_made deal)

-- what is known of its looks: a result never waits
abbrev pub target_looks : Target → Looks
target_looks (Result result) = no_looks
target_looks (Build build) = build_looks build
target_looks (Put put) = put_looks put
target_looks (Deal deal) = deal_looks deal

-- how often this bell was to be rung for what it did
abbrev pub target_dues : Target → ℕ → ℕ
target_dues (Result result) bell = 0
target_dues (Build build) bell = build_dues build bell
target_dues (Put put) bell = put_dues put bell
target_dues (Deal deal) bell = deal_dues deal bell

abbrev pub is_build : Target → Bool
is_build (Result result) = false
is_build (Build build) = true
is_build (Put put) = false
is_build (Deal deal) = false

-- the rows that a target hands over: a build leaves its own in the cell, and others put them to edges
abbrev pub rows_handed : Target → List Row
rows_handed (Result result) = result.rows
rows_handed (Build build) = []
rows_handed (Put put) = []
rows_handed (Deal deal) = []
