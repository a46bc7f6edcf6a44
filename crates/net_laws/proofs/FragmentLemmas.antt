-- What the drivers of a pipe took of a fragment together.
use Rattle.std.proofs.Common.{◌≡◌, ℕ, ◌<◌, List, true, Option, None, length, subst, sym, ap, ◌∙◌, arith}
use Rattle.std.specs.Prelude.{All, option_map, slice_get, unwrap_or, Some}
use Rattle.std.proofs.lemmas.List.FromFn.{length-map-range_with_len}
use Rattle.bag_laws.specs.Gather.{gather}
use Rattle.bag_laws.proofs.GatherLemmas.{gather-agree}
use Rattle.operator_core.specs.Rows.{Row}
use Rattle.driver_ends.specs.Sources.{IsRemoteEnded, RemoteState}
use Rattle.driver_loop.specs.Drivers.{DriverState}
use Rattle.plan_docs.specs.declared.plan.Output.{Output}
use Rattle.plan_run_laws.specs.Nets.{of_tasks}
use Rattle.plan_run_laws.specs.Runs.{sent}
use Rattle.plan_run_laws.specs.Stops.{AllSet, Hop, TookOf}
use Rattle.plan_spreads.specs.Runs.{output_view}
use Rattle.source_laws.specs.Edges.{AreTold, KeepsPutter, Putter, SpreadCameBack, rows_for, rows_from}
use Rattle.source_laws.proofs.HopLemmas.{hop_closed, hop_when}
use Rattle.source_laws.proofs.SentLemmas.{sent-gather}
use Rattle.plan_layout.specs.Pipes.{PipeForm, driver_number, fragment}
use Rattle.driver_net_laws.specs.Nets.{IsPutFor, IsTargetFor, NetForm, edges_to, tasks_at}
use Rattle.driver_net_laws.specs.Settled.{SourceIsBack, SpreadIsBack, in_pipe, in_task, of_lane, spread_takes_in}
use Rattle.driver_net_laws.specs.States.{Flow, pipe_of}
use Rattle.net_laws.specs.Giving.{IsPlainlyFetched, IsRoot}
use Rattle.net_laws.proofs.DriverLemmas.{AllKnown}
use Rattle.net_laws.proofs.RemoteLemmas.{remote_rows, remote_seats, remotes_ended, remotes_in, remotes_taken}
use Rattle.net_laws.proofs.FetchLemmas.{fetched_hop}
use Rattle.net_laws.proofs.GiveLemmas.{puts_of_root}
use Rattle.net_laws.proofs.PutLemmas.{Putting, gather_puts, lane_puts, putters_in, seats_in_pipe}

-- what the drivers of the fragment's root gave is put, task by task, as its output sends it
module _ (net : NetForm) (drivers : List DriverState) (flow : Flow) (output : Output) (m at j : ℕ) (is : IsRoot net.layout output m at j)
    (known : AllKnown net drivers flow j is.root.pipe) (to : ℕ) (within : to < length (edges_to net at)) where
  abbrev root : PipeForm
  root = is.root.pipe

  abbrev sent_to : List Row → List Row
  sent_to rows = sent (output_view output) (length (edges_to net at)) to rows

  puts_at : (task lane : ℕ) (in_tasks : task < root.tasks) (in_lanes : lane < root.drivers)
      → IsPutFor (output_view output) (edges_to net at) (known task lane in_tasks in_lanes).driver.target
  puts_at task lane in_tasks in_lanes =
      let k = known task lane in_tasks in_lanes in
      subst (λ target. IsTargetFor net j task target k.driver.target) is.root.has k.is.target

  abbrev IsRootDone : ℕ → Type 0
  IsRootDone task = (e : ℕ) → e < root.drivers → (pipe_of drivers flow j root).done task e ≡ true

  root_puts : Putting (in_pipe (putters_in to) drivers root) (gather root.tasks (λ task. gather root.drivers (λ lane. sent_to (flow.gave (driver_number root task lane)))))
      ((task : ℕ) → task < root.tasks → IsRootDone task)
  root_puts =
      gather_puts root.tasks (in_task (putters_in to) drivers root) (λ task. gather root.drivers (λ lane. sent_to (flow.gave (driver_number root task lane)))) IsRootDone (λ task in_tasks.
      gather_puts root.drivers (of_lane (putters_in to) drivers root task) (λ lane. sent_to (flow.gave (driver_number root task lane)))
      (λ lane. (pipe_of drivers flow j root).done task lane ≡ true) (λ lane in_lanes.
      lane_puts net drivers flow j root task lane (known task lane in_tasks in_lanes) (output_view output) (edges_to net at) to (puts_at task lane in_tasks in_lanes) within))

  all_sent : gather root.tasks (λ task. gather root.drivers (λ lane. sent_to (flow.gave (driver_number root task lane))))
      ≡ sent_to (gather root.tasks (of_tasks root.drivers (pipe_of drivers flow j root).gave))
  all_sent =
      sym (sent-gather (output_view output) (length (edges_to net at)) to root.tasks (of_tasks root.drivers (pipe_of drivers flow j root).gave)
      ∙ gather-agree root.tasks (λ task. sent_to (of_tasks root.drivers (pipe_of drivers flow j root).gave task))
      (λ task. gather root.drivers (λ lane. sent_to (flow.gave (driver_number root task lane)))) (λ task below.
      sent-gather (output_view output) (length (edges_to net at)) to root.drivers ((pipe_of drivers flow j root).gave task)))

  pub rows_put : rows_for (in_pipe (putters_in to) drivers root) ≡ sent_to (gather m (of_tasks root.drivers (pipe_of drivers flow j root).gave))
  rows_put = root_puts.given ∙ all_sent ∙ ap (λ (tasks : ℕ). sent_to (gather tasks (of_tasks root.drivers (pipe_of drivers flow j root).gave))) is.root.tasks

  pub all_done : AreTold (in_pipe (putters_in to) drivers root) → AllSet m root.drivers (pipe_of drivers flow j root).done
  all_done told task lane in_m in_lanes = root_puts.done told task (omega (arith, is.root.tasks, in_m)) lane in_lanes

  pub all_keep : All KeepsPutter (in_pipe (putters_in to) drivers root)
  all_keep = root_puts.keeps

module _ (net : NetForm) (drivers : List DriverState) (flow : Flow) (at : ℕ) (pipe : PipeForm) (is : slice_get net.layout at ≡ Some pipe)
    (known : AllKnown net drivers flow at pipe) (number : ℕ) (reads : pipe.source ≡ fragment number) (unread : pipe.scan ≡ None)
    (back : SourceIsBack net drivers at pipe pipe.source)
    (output : Output) (m j : ℕ) (root_is : IsRoot net.layout output m at j) (root_known : AllKnown net drivers flow j root_is.root.pipe)
    (by : IsPlainlyFetched net.layout at pipe.tasks) (by_known : AllKnown net drivers flow by.fetched.place by.fetched.pipe)
    (by_back : SourceIsBack net drivers by.fetched.place by.fetched.pipe by.fetched.pipe.source) (task : ℕ) (in_tasks : task < pipe.tasks) where
  -- there is an edge for each of its tasks
  edges : length (edges_to net at) ≡ pipe.tasks
  edges =
      length-map-range_with_len (net.links.gathers at) 0 (tasks_at net.layout at)
      ∙ ap (λ (o : Option PipeForm). unwrap_or (option_map (λ (p : PipeForm). p.tasks) o) 0) is

  within : task < length (edges_to net at)
  within = omega (arith, edges, in_tasks)

  is_back : SpreadIsBack net.layout drivers at task (in_task spread_takes_in drivers pipe task)
  is_back = (subst (SourceIsBack net drivers at pipe) reads back) task in_tasks

  abbrev rows_given : List Row
  rows_given = gather m (of_tasks root_is.root.pipe.drivers (pipe_of drivers flow j root_is.root.pipe).gave)

  abbrev IsRootOver : Type 0
  IsRootOver = AllSet m root_is.root.pipe.drivers (pipe_of drivers flow j root_is.root.pipe).done

  abbrev all_putters : List Putter
  all_putters = in_pipe (putters_in task) drivers root_is.root.pipe

  abbrev remotes : List RemoteState
  remotes = in_task remotes_in drivers pipe task

  from_root : Hop (rows_for all_putters) (rows_from remotes) (All IsRemoteEnded remotes) (AreTold all_putters)
  from_root =
      fetched_hop net drivers flow at pipe.tasks by by_known by_back task in_tasks all_putters
      (all_keep net drivers flow output m at j root_is root_known task within)
      (seats_in_pipe task drivers root_is.root.pipe ∙ sym (puts_of_root drivers at task net.layout output m j root_is))
      is_back.put is_back.one remotes (subst (SpreadCameBack is_back.put) (sym (remote_seats drivers pipe task)) is_back.back)
      (remotes_taken net drivers flow at pipe known number reads unread task in_tasks)

  were_sent : rows_for all_putters ≡ sent (output_view output) pipe.tasks task rows_given
  were_sent =
      rows_put net drivers flow output m at j root_is root_known task within
      ∙ ap (λ (tasks : ℕ). sent (output_view output) tasks task rows_given) edges

  pub fragment_took : TookOf pipe.drivers ((pipe_of drivers flow at pipe).took task) ((pipe_of drivers flow at pipe).ended task) (sent (output_view output) pipe.tasks task rows_given) IsRootOver
  fragment_took =
      hop_closed (all_done net drivers flow output m at j root_is root_known task within)
      (hop_when (remotes_ended net drivers flow at pipe known number reads unread task in_tasks)
      (subst (λ put. Hop put (gather pipe.drivers ((pipe_of drivers flow at pipe).took task)) (All IsRemoteEnded remotes) (AreTold all_putters)) were_sent
      (subst (λ took. Hop (rows_for all_putters) took (All IsRemoteEnded remotes) (AreTold all_putters))
      (remote_rows net drivers flow at pipe known number reads unread task in_tasks) from_root)))
