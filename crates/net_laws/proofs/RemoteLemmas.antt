-- The drivers of a task that take from one edge together.
use Rattle.std.proofs.Common.{◌≡◌, ℕ, ◌<◌, List, [], ◌∷◌, true, None, map, refl, subst, sym, ap, ◌∙◌}
use Rattle.std.specs.Prelude.{All, flat_map}
use Rattle.std.proofs.lemmas.List.{append-nil}
use Rattle.std.proofs.lemmas.List.Elements.{All-same}
use Rattle.bag_laws.specs.Gather.{gather}
use Rattle.bag_laws.proofs.GatherLemmas.{gather-agree, gather-flat_map}
use Rattle.driver_ends.specs.Ends.{remote_taken}
use Rattle.driver_ends.specs.Sources.{HasRemoteTaken, IsRemoteEnded, RemoteState}
use Rattle.driver_loop.specs.Drivers.{DriverState}
use Rattle.driver_loop.specs.Ends.{IsBegun, IsDrained, rows_taken}
use Rattle.driver_loop.specs.Seats.{spread_take_of}
use Rattle.driver_loop.specs.Sources.{Source, Scan, Rows, Local, Remote, Fetch}
use Rattle.source_laws.specs.Edges.{rows_from, taking_seats}
use Rattle.plan_layout.specs.Pipes.{PipeForm, fragment}
use Rattle.driver_net_laws.specs.Nets.{IsRemoteFor, IsSourceFor, NetForm, front_stages}
use Rattle.driver_net_laws.specs.Settled.{in_task, listed, of_lane, spread_takes_in}
use Rattle.driver_net_laws.specs.States.{Flow, pipe_of}
use Rattle.net_laws.proofs.ListLemmas.{All-gather, All-one}
use Rattle.net_laws.proofs.DriverLemmas.{AllKnown, ended_is, lane_is, map_in_task, took_is}
use Rattle.net_laws.proofs.FrontLemmas.{none_in_front}

abbrev remotes_of : Source → List RemoteState
remotes_of (Scan scan) = []
remotes_of (Rows rows) = []
remotes_of (Local local) = []
remotes_of (Remote remote) = remote ∷ []
remotes_of (Fetch fetch) = []

abbrev pub remotes_in : DriverState → List RemoteState
remotes_in d = remotes_of d.source

takes_seen : (s : Source) → map (λ (remote : RemoteState). remote.seat) (remotes_of s) ≡ listed (spread_take_of s)
takes_seen (Scan scan) = refl
takes_seen (Rows rows) = refl
takes_seen (Local local) = refl
takes_seen (Remote remote) = refl
takes_seen (Fetch fetch) = refl

pub remote_seats : (drivers : List DriverState) (pipe : PipeForm) (task : ℕ) → taking_seats (in_task remotes_in drivers pipe task) ≡ in_task spread_takes_in drivers pipe task
remote_seats drivers pipe task = map_in_task (λ (remote : RemoteState). remote.seat) remotes_in spread_takes_in (λ d. takes_seen d.source) drivers pipe task

module _ (net : NetForm) (drivers : List DriverState) (flow : Flow) (at : ℕ) (pipe : PipeForm) (known : AllKnown net drivers flow at pipe)
    (number : ℕ) (reads : pipe.source ≡ fragment number) (unread : pipe.scan ≡ None) (task : ℕ) (in_tasks : task < pipe.tasks) where
  abbrev remotes : List RemoteState
  remotes = in_task remotes_in drivers pipe task

  remote_at : (lane : ℕ) (in_lanes : lane < pipe.drivers) → IsRemoteFor (net.links.spreads at task) (known task lane in_tasks in_lanes).driver.source
  remote_at lane in_lanes =
      let k = known task lane in_tasks in_lanes in
      subst (λ source. IsSourceFor net at task source k.driver.source) reads k.is.source

  no_front : (lane : ℕ) (in_lanes : lane < pipe.drivers) → front_stages pipe.steps (known task lane in_tasks in_lanes).driver.stages ≡ []
  no_front lane in_lanes = let k = known task lane in_tasks in_lanes in none_in_front net at pipe task lane k.driver k.is unread

  lane_remote : (lane : ℕ) (in_lanes : lane < pipe.drivers) → of_lane remotes_in drivers pipe task lane ≡ (remote_at lane in_lanes).remote ∷ []
  lane_remote lane in_lanes =
      let k = known task lane in_tasks in_lanes in
      lane_is remotes_in drivers pipe task lane k.driver k.there ∙ ap remotes_of (remote_at lane in_lanes).is

  each_remote : (P : RemoteState → Type 0) → ((lane : ℕ) (in_lanes : lane < pipe.drivers) → P (remote_at lane in_lanes).remote) → All P remotes
  each_remote P each =
      All-gather P pipe.drivers (of_lane remotes_in drivers pipe task) (λ lane in_lanes.
      let remote = (remote_at lane in_lanes).remote in
      All-same P (of_lane remotes_in drivers pipe task lane) (remote ∷ []) (lane_remote lane in_lanes) (All-one P remote (each lane in_lanes)))

  lane_rows : (lane : ℕ) (in_lanes : lane < pipe.drivers) → flat_map remote_taken (of_lane remotes_in drivers pipe task lane) ≡ (pipe_of drivers flow at pipe).took task lane
  lane_rows lane in_lanes =
      let remote = (remote_at lane in_lanes).remote in
      ap (flat_map remote_taken) (lane_remote lane in_lanes) ∙ append-nil (remote_taken remote)
      ∙ sym (took_is net drivers flow at pipe task lane (known task lane in_tasks in_lanes) (no_front lane in_lanes) ∙ ap rows_taken (remote_at lane in_lanes).is)

  pub remote_rows : rows_from remotes ≡ gather pipe.drivers ((pipe_of drivers flow at pipe).took task)
  remote_rows =
      gather-flat_map pipe.drivers remote_taken (of_lane remotes_in drivers pipe task)
      ∙ gather-agree pipe.drivers (λ lane. flat_map remote_taken (of_lane remotes_in drivers pipe task lane)) ((pipe_of drivers flow at pipe).took task) lane_rows

  pub remotes_taken : All (λ (s : RemoteState). HasRemoteTaken s (remote_taken s)) remotes
  remotes_taken =
      each_remote (λ (s : RemoteState). HasRemoteTaken s (remote_taken s)) (λ lane in_lanes. subst IsBegun (remote_at lane in_lanes).is (known task lane in_tasks in_lanes).still.begun)

  pub remotes_ended : ((d : ℕ) → d < pipe.drivers → (pipe_of drivers flow at pipe).ended task d ≡ true) → All IsRemoteEnded remotes
  remotes_ended set =
      each_remote IsRemoteEnded (λ lane in_lanes.
      let k = known task lane in_tasks in_lanes in
      subst IsDrained (remote_at lane in_lanes).is (k.still.drained (sym (ended_is net drivers flow at pipe task lane k (no_front lane in_lanes)) ∙ set lane in_lanes)))
