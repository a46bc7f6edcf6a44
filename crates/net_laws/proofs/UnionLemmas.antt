-- What the driver of a union took of its sides.
use Rattle.std.proofs.Common.{◌≡◌, ℕ, ◌<◌, List, [], ◌∷◌, ◌++◌, ◌⊎◌, inl, inr, true, None, subst, sym, ap, ◌∙◌, arith}
use Rattle.std.specs.Prelude.{All}
use Rattle.std.proofs.lemmas.List.{map-append}
use Rattle.bag_laws.proofs.BagLemmas.{same-append_comm, same-trans}
use Rattle.operator_core.specs.Rows.{Row}
use Rattle.output_buffer.specs.Seats.{EdgeId, GatherPutState, GatherTakeState}
use Rattle.driver_loop.specs.Drivers.{DriverState}
use Rattle.driver_loop.specs.Ends.{IsBegun, IsDrained, has_ended, rows_taken}
use Rattle.driver_loop.specs.Seats.{gather_take_of}
use Rattle.driver_loop.specs.Sources.{Source}
use Rattle.plan_run_laws.specs.Nets.{IsAlone, of_tasks}
use Rattle.plan_run_laws.specs.RunPlans as plan
use Rattle.plan_run_laws.specs.Stops.{Hop, TookOf}
use Rattle.source_laws.specs.Edges.{AreTold, GatherCameBack, KeepsPutter, Putter, putting_seats, rows_for}
use Rattle.source_laws.proofs.HopLemmas.{hop_closed, hop_when}
use Rattle.source_laws.proofs.TakeLemmas.{local_edge_hop}
use Rattle.plan_layout.specs.Pipes.{PipeForm, driver_number, sides, side}
use Rattle.driver_net_laws.specs.Nets.{IsLocalFor, IsPutFor, IsSourceFor, IsTargetFor, NetForm}
use Rattle.driver_net_laws.specs.Settled.{GatherIsBack, SourceIsBack, gather_takes_in, in_task, listed, of_lane, put_to, puts_into}
use Rattle.driver_net_laws.specs.States.{Flow, pipe_of}
use Rattle.net_laws.specs.Giving.{AreSides, IsGiver}
use Rattle.net_laws.proofs.DriverLemmas.{AllKnown, Known, alone_is, lane_is}
use Rattle.net_laws.proofs.FrontLemmas.{none_in_front}
use Rattle.net_laws.proofs.GiveLemmas.{puts_of_sides}
use Rattle.net_laws.proofs.ListLemmas.{same_one}
use Rattle.net_laws.proofs.PutLemmas.{Putting, both_put, gather_puts, lane_puts, putters_in, seats_in_task}
use Rattle.net_laws.proofs.RowLemmas.{alone_took}

-- what one driver took of an edge of its own
local_source_hop : (of : EdgeId) (source : Source) → IsLocalFor of source → IsBegun source → (has_ended source ≡ true → IsDrained source)
    → (putters : List Putter) → All KeepsPutter putters → (take : GatherTakeState) → listed (gather_take_of source) ≡ take ∷ [] → GatherCameBack (putting_seats putters) take
    → Hop (rows_for putters) (rows_taken source) (has_ended source ≡ true) (AreTold putters)
local_source_hop of source are begun drained putters keeps take one back =
    let own_drained = subst (λ (s : Source). has_ended s ≡ true → IsDrained s) are.is drained in
    let own : are.local.seat ≡ take = same_one (sym (ap (λ (s : Source). listed (gather_take_of s)) are.is) ∙ one) in
    subst (λ (s : Source). Hop (rows_for putters) (rows_taken s) (has_ended s ≡ true) (AreTold putters)) (sym are.is)
    (hop_when own_drained (local_edge_hop putters are.local keeps (subst (GatherCameBack (putting_seats putters)) (sym own) back) (subst IsBegun are.is begun)))

hop_swapped : (A B : List Row) {took : List Row} {IsOver D E : Type 0} → Hop (B ++ A) took IsOver (E × D) → Hop (A ++ B) took IsOver (D × E)
hop_swapped A B hop = record {
  left = hop.left;
  some = same-trans hop.some (same-append_comm B A);
  all = hop.all;
  closed = λ over. let both = hop.closed over in (both.1, both.0);
}

abbrev seat_of : Putter → GatherPutState
seat_of p = p.outlet.seat

abbrev rows_of_side : List DriverState → Flow → ℕ → PipeForm → ℕ → List Row
rows_of_side drivers flow at pipe task = of_tasks pipe.drivers (pipe_of drivers flow at pipe).gave task

abbrev IsSideDone : List DriverState → Flow → ℕ → PipeForm → ℕ → Type 0
IsSideDone drivers flow at pipe task = (e : ℕ) → e < pipe.drivers → (pipe_of drivers flow at pipe).done task e ≡ true

-- what the drivers of one side put in a task
module _ (net : NetForm) (drivers : List DriverState) (flow : Flow) (n at place : ℕ) (giver : IsGiver net.layout n (side at) place)
    (known : AllKnown net drivers flow place giver.pipe) (task : ℕ) (in_tasks : task < n) where
  has_task : task < giver.pipe.tasks
  has_task = omega (arith, giver.tasks, in_tasks)

  puts_at : (lane : ℕ) (in_lanes : lane < giver.pipe.drivers) → IsPutFor plan.single (net.links.gathers at task ∷ []) (known task lane has_task in_lanes).driver.target
  puts_at lane in_lanes =
      let k = known task lane has_task in_lanes in
      subst (λ target. IsTargetFor net place task target k.driver.target) giver.has k.is.target

  side_puts : Putting (in_task (putters_in 0) drivers giver.pipe task) (rows_of_side drivers flow place giver.pipe task) (IsSideDone drivers flow place giver.pipe task)
  side_puts =
      gather_puts giver.pipe.drivers (of_lane (putters_in 0) drivers giver.pipe task) (λ lane. flow.gave (driver_number giver.pipe task lane))
      (λ lane. (pipe_of drivers flow place giver.pipe).done task lane ≡ true) (λ lane in_lanes.
      lane_puts net drivers flow place giver.pipe task lane (known task lane has_task in_lanes) plan.single (net.links.gathers at task ∷ []) 0 (puts_at lane in_lanes) (omega arith))

module _ (net : NetForm) (drivers : List DriverState) (flow : Flow) (at : ℕ) (pipe : PipeForm) (known : AllKnown net drivers flow at pipe)
    (reads : pipe.source ≡ sides) (unread : pipe.scan ≡ None) (alone : IsAlone pipe.drivers) (back : SourceIsBack net drivers at pipe pipe.source) (task : ℕ) (in_tasks : task < pipe.tasks) where
  one : Known net drivers flow at pipe task 0
  one = known task 0 in_tasks (omega (arith, alone))

  is_back : GatherIsBack net.layout drivers at task (in_task gather_takes_in drivers pipe task)
  is_back = (subst (SourceIsBack net drivers at pipe) reads back) task in_tasks

  own_seat : listed (gather_take_of one.driver.source) ≡ is_back.take ∷ []
  own_seat = sym (alone_is gather_takes_in drivers pipe task alone ∙ lane_is gather_takes_in drivers pipe task 0 one.driver one.there) ∙ is_back.one

  took_of : (putters : List Putter) (rows : List Row) (IsDone : Type 0) → Putting putters rows IsDone → putting_seats putters ≡ puts_into net.layout drivers at task
      → TookOf pipe.drivers ((pipe_of drivers flow at pipe).took task) ((pipe_of drivers flow at pipe).ended task) rows IsDone
  took_of putters rows IsDone puts seats =
      alone_took net drivers flow at pipe task alone one (none_in_front net at pipe task 0 one.driver one.is unread) rows IsDone
      (hop_closed puts.done (subst (λ put. Hop put (rows_taken one.driver.source) (has_ended one.driver.source ≡ true) (AreTold putters)) puts.given
      (local_source_hop (net.links.gathers at task) one.driver.source (subst (λ source. IsSourceFor net at task source one.driver.source) reads one.is.source)
      one.still.begun one.still.drained putters puts.keeps is_back.take own_seat (subst (λ seats. GatherCameBack seats is_back.take) (sym seats) is_back.back))))

  module _ (i j : ℕ) (are : AreSides net.layout pipe.tasks at i j) (left_known : AllKnown net drivers flow i are.left.pipe) (right_known : AllKnown net drivers flow j are.right.pipe) where
    abbrev IsTaken : List Row → Type 0 → Type 0
    IsTaken rows AreDone = TookOf pipe.drivers ((pipe_of drivers flow at pipe).took task) ((pipe_of drivers flow at pipe).ended task) rows AreDone

    abbrev left_rows : List Row
    left_rows = rows_of_side drivers flow i are.left.pipe task

    abbrev right_rows : List Row
    right_rows = rows_of_side drivers flow j are.right.pipe task

    abbrev IsLeftDone : Type 0
    IsLeftDone = IsSideDone drivers flow i are.left.pipe task

    abbrev IsRightDone : Type 0
    IsRightDone = IsSideDone drivers flow j are.right.pipe task

    abbrev left_putters : List Putter
    left_putters = in_task (putters_in 0) drivers are.left.pipe task

    abbrev right_putters : List Putter
    right_putters = in_task (putters_in 0) drivers are.right.pipe task

    left_seats : putting_seats left_putters ≡ in_task (put_to 0) drivers are.left.pipe task
    left_seats = seats_in_task 0 drivers are.left.pipe task

    right_seats : putting_seats right_putters ≡ in_task (put_to 0) drivers are.right.pipe task
    right_seats = seats_in_task 0 drivers are.right.pipe task

    left_put : Putting left_putters left_rows IsLeftDone
    left_put = side_puts net drivers flow pipe.tasks at i are.left left_known task in_tasks

    right_put : Putting right_putters right_rows IsRightDone
    right_put = side_puts net drivers flow pipe.tasks at j are.right right_known task in_tasks

    pub union_took : IsTaken (left_rows ++ right_rows)
        (IsLeftDone × IsRightDone)
    union_took = by_order (puts_of_sides drivers at task net.layout pipe.tasks i j are)
      where
        by_order : (puts_into net.layout drivers at task ≡ in_task (put_to 0) drivers are.left.pipe task ++ in_task (put_to 0) drivers are.right.pipe task)
            ⊎ (puts_into net.layout drivers at task ≡ in_task (put_to 0) drivers are.right.pipe task ++ in_task (put_to 0) drivers are.left.pipe task)
            → IsTaken (left_rows ++ right_rows) (IsLeftDone × IsRightDone)
        by_order (inl seats) =
            took_of (left_putters ++ right_putters) (left_rows ++ right_rows) (IsLeftDone × IsRightDone)
            (both_put left_putters right_putters left_rows right_rows IsLeftDone IsRightDone left_put right_put)
            (map-append seat_of left_putters right_putters ∙ (λ k. left_seats k ++ right_seats k) ∙ sym seats)
        by_order (inr seats) =
            hop_swapped left_rows right_rows
            (took_of (right_putters ++ left_putters) (right_rows ++ left_rows) (IsRightDone × IsLeftDone)
            (both_put right_putters left_putters right_rows left_rows IsRightDone IsLeftDone right_put left_put)
            (map-append seat_of right_putters left_putters ∙ (λ k. right_seats k ++ left_seats k) ∙ sym seats))
