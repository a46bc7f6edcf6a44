-- What the drivers of a pipe took of a table together.
use Rattle.std.proofs.Common.{◌≡◌, ℕ, ◌<◌, List, [], ◌∷◌, true, map, refl, subst, sym, ap, ◌∙◌}
use Rattle.std.specs.Prelude.{All, flat_map}
use Rattle.std.proofs.lemmas.List.{append-nil}
use Rattle.std.proofs.lemmas.List.Elements.{All-same}
use Rattle.sql_values.specs.declared.types.SqlType.{SqlType}
use Rattle.bag_laws.specs.Gather.{gather}
use Rattle.bag_laws.proofs.GatherLemmas.{gather-agree, gather-flat_map}
use Rattle.split_source.specs.Gathered.{AreDistinct, AreWhole}
use Rattle.split_source.specs.Scans.{ScanState, given}
use Rattle.split_source.specs.Seats.{AreAllOf}
use Rattle.driver_loop.specs.Drivers.{DriverState}
use Rattle.driver_loop.specs.Ends.{IsDrained, claim_of, has_ended, rows_taken}
use Rattle.driver_loop.specs.Sources.{Source, Scan, Rows, Local, Remote, Fetch}
use Rattle.plan_trees.specs.Allowed.{scanned, table_rows}
use Rattle.plan_run_laws.specs.Nets.{of_tasks}
use Rattle.plan_run_laws.specs.Stops.{AllSet, Hop}
use Rattle.source_laws.specs.Scans.{AreDrained, AreEnded, AreScansOf, IsScanOf, rows_scanned, seats_of}
use Rattle.source_laws.proofs.HopLemmas.{hop_when}
use Rattle.source_laws.proofs.ScanLemmas.{scans_hop}
use Rattle.plan_layout.specs.Pipes.{PipeForm, table}
use Rattle.driver_net_laws.specs.Nets.{IsScanFor, IsSourceFor, NetForm}
use Rattle.driver_net_laws.specs.Settled.{SourceIsBack, claims_in, in_pipe, in_task, listed, of_lane}
use Rattle.driver_net_laws.specs.States.{Flow, rows_taken_by, sources_ended}
use Rattle.net_laws.proofs.ListLemmas.{All-gather, All-one, some_gathered}
use Rattle.net_laws.proofs.DriverLemmas.{AllKnown, lane_is, map_in_pipe, source_ended, source_took}

abbrev scans_of : Source → List ScanState
scans_of (Scan scan) = scan ∷ []
scans_of (Rows rows) = []
scans_of (Local local) = []
scans_of (Remote remote) = []
scans_of (Fetch fetch) = []

abbrev scans_in : DriverState → List ScanState
scans_in d = scans_of d.source

claims_seen : (s : Source) → map (λ (scan : ScanState). scan.seat) (scans_of s) ≡ listed (claim_of s)
claims_seen (Scan scan) = refl
claims_seen (Rows rows) = refl
claims_seen (Local local) = refl
claims_seen (Remote remote) = refl
claims_seen (Fetch fetch) = refl

module _ (net : NetForm) (drivers : List DriverState) (flow : Flow) (at : ℕ) (pipe : PipeForm) (known : AllKnown net drivers flow at pipe)
    (place : ℕ) (columns : List ℕ) (kinds : List SqlType) (reads : pipe.source ≡ table place columns kinds) (back : SourceIsBack net drivers at pipe pipe.source) where
  abbrev scans : List ScanState
  scans = in_pipe scans_in drivers pipe

  scan_at : (task lane : ℕ) (in_tasks : task < pipe.tasks) (in_lanes : lane < pipe.drivers)
      → IsScanFor (table_rows net.tables place) columns net.split (net.links.claims at) (known task lane in_tasks in_lanes).driver.source
  scan_at task lane in_tasks in_lanes =
      let k = known task lane in_tasks in_lanes in
      subst (λ source. IsSourceFor net at task source k.driver.source) reads k.is.source

  lane_scan : (task lane : ℕ) (in_tasks : task < pipe.tasks) (in_lanes : lane < pipe.drivers)
      → of_lane scans_in drivers pipe task lane ≡ (scan_at task lane in_tasks in_lanes).scan ∷ []
  lane_scan task lane in_tasks in_lanes =
      let k = known task lane in_tasks in_lanes in
      lane_is scans_in drivers pipe task lane k.driver k.there ∙ ap scans_of (scan_at task lane in_tasks in_lanes).is

  each_scan : (P : ScanState → Type 0) → ((task lane : ℕ) (in_tasks : task < pipe.tasks) (in_lanes : lane < pipe.drivers) → P (scan_at task lane in_tasks in_lanes).scan) → All P scans
  each_scan P each =
      All-gather P pipe.tasks (in_task scans_in drivers pipe) (λ task in_tasks.
      All-gather P pipe.drivers (of_lane scans_in drivers pipe task) (λ lane in_lanes.
      let scan = (scan_at task lane in_tasks in_lanes).scan in
      All-same P (of_lane scans_in drivers pipe task lane) (scan ∷ []) (lane_scan task lane in_tasks in_lanes) (All-one P scan (each task lane in_tasks in_lanes))))

  lane_rows : (task lane : ℕ) (in_tasks : task < pipe.tasks) (in_lanes : lane < pipe.drivers)
      → flat_map given (of_lane scans_in drivers pipe task lane) ≡ rows_taken_by drivers pipe task lane
  lane_rows task lane in_tasks in_lanes =
      let scan = (scan_at task lane in_tasks in_lanes).scan in
      ap (flat_map given) (lane_scan task lane in_tasks in_lanes) ∙ append-nil (given scan)
      ∙ sym (source_took net drivers flow at pipe task lane (known task lane in_tasks in_lanes) ∙ ap rows_taken (scan_at task lane in_tasks in_lanes).is)

  all_rows : rows_scanned scans ≡ gather pipe.tasks (of_tasks pipe.drivers (rows_taken_by drivers pipe))
  all_rows =
      gather-flat_map pipe.tasks given (in_task scans_in drivers pipe)
      ∙ gather-agree pipe.tasks (λ task. flat_map given (in_task scans_in drivers pipe task)) (of_tasks pipe.drivers (rows_taken_by drivers pipe)) (λ task in_tasks.
      gather-flat_map pipe.drivers given (of_lane scans_in drivers pipe task)
      ∙ gather-agree pipe.drivers (λ lane. flat_map given (of_lane scans_in drivers pipe task lane)) (rows_taken_by drivers pipe task) (λ lane in_lanes.
      lane_rows task lane in_tasks in_lanes))

  all_ended : AllSet pipe.tasks pipe.drivers (sources_ended drivers pipe) → AreEnded scans
  all_ended set =
      each_scan (λ (scan : ScanState). scan.seat.is_ended ≡ true) (λ task lane in_tasks in_lanes.
      sym (ap has_ended (scan_at task lane in_tasks in_lanes).is) ∙ sym (source_ended net drivers flow at pipe task lane (known task lane in_tasks in_lanes)) ∙ set task lane in_tasks in_lanes)

  all_drained : AreDrained scans
  all_drained =
      each_scan (λ (scan : ScanState). scan.seat.is_ended ≡ true → scan.left ≡ 0) (λ task lane in_tasks in_lanes. λ ended.
      let is = (scan_at task lane in_tasks in_lanes).is in
      subst IsDrained is ((known task lane in_tasks in_lanes).still.drained (ap has_ended is ∙ ended)))

  came_back : SourceIsBack net drivers at pipe (table place columns kinds)
  came_back = subst (SourceIsBack net drivers at pipe) reads back

  seats_are : seats_of scans ≡ in_pipe claims_in drivers pipe
  seats_are = map_in_pipe (λ (scan : ScanState). scan.seat) scans_in claims_in (λ d. claims_seen d.source) drivers pipe

  are_scans : AreScansOf (table_rows net.tables place) columns net.split scans
  are_scans =
      let some_task = some_gathered pipe.tasks (in_task claims_in drivers pipe) came_back.0.some in
      let some_lane = some_gathered pipe.drivers (of_lane claims_in drivers pipe some_task.0) some_task.2 in
      let one = scan_at some_task.0 some_lane.0 some_task.1 some_lane.1 in
      record {
        claims = net.links.claims at;
        seats = subst (AreAllOf (net.links.claims at)) (sym seats_are) came_back.0;
        each = each_scan (IsScanOf (table_rows net.tables place) columns net.split) (λ task lane in_tasks in_lanes. (scan_at task lane in_tasks in_lanes).of);
        some = one.some;
        count = one.count;
      }

  pub table_hop : Hop (scanned net.tables place columns) (gather pipe.tasks (of_tasks pipe.drivers (rows_taken_by drivers pipe)))
      (AllSet pipe.tasks pipe.drivers (sources_ended drivers pipe)) (Unit {0})
  table_hop =
      hop_when all_ended (subst (λ rows. Hop (scanned net.tables place columns) rows (AreEnded scans) (Unit {0})) all_rows
      (scans_hop (table_rows net.tables place) columns net.split scans are_scans
      (subst AreDistinct (sym seats_are) came_back.1) (subst AreWhole (sym seats_are) came_back.2) all_drained))
