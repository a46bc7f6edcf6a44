-- The seats of an edge are of that edge, and the seats of claims of those claims.
use Rattle.std.proofs.Common.{◌≡◌, ◌<◌, ◌*◌, ◌∙◌, ◌==◌, ℕ, zero, suc, List, [], ◌∷◌, Bool, true, false, Option, Some, None, arith, length, map, refl, sym, subst, ap}
use Rattle.std.specs.Prelude.{All, if◌then◌else◌, max, option_map, slice_get}
use Rattle.std.specs.List.{range_with_len}
use Rattle.std.proofs.lemmas.List.Elements.{All-cons, All-head, All-nil}
use Rattle.std.proofs.lemmas.List.FromFn.{get_or-range_with_len, length-range_with_len}
use Rattle.std.proofs.lemmas.Bool.{eqb-true}
use Rattle.std.proofs.lemmas.Option.{get_or_from_slice_get, same_Some, slice_get-map, slice_get_within}
use Rattle.sql_values.specs.declared.types.SqlType.{SqlType}
use Rattle.split_source.specs.Seats.{AreAll, AreAllOf, ClaimsId, SeatState}
use Rattle.output_buffer.specs.Seats.{EdgeId, GatherPutState, GatherTakeState, SpreadPutState, SpreadTakeState}
use Rattle.driver_ends.specs.Outlets.{OutletState}
use Rattle.plan_run_laws.specs.RunPlans.{Output}
use Rattle.driver_loop.specs.Drivers.{DriverState}
use Rattle.driver_loop.specs.Ends.{claim_of}
use Rattle.driver_loop.specs.Seats.{deal_of, gather_take_of, puts_of, spread_take_of}
use Rattle.driver_loop.specs.Sources.{Source}
use Rattle.driver_loop.specs.declared.target.Target.{Target}
use Rattle.driver_net_laws.specs.Nets.{AreDriversOf, IsPutFor, IsSourceFor, IsTargetFor, NetForm, edges_to, tasks_at}
use Rattle.driver_net_laws.specs.Settled.{claims_in, deals_from, deals_in, deals_into, gather_takes_in, in_pipe, in_task, listed, put_to, puts_from, puts_into, spread_takes_in}
use Rattle.plan_layout.specs.Pipes.{PipeForm, SourceForm, TargetForm, table, rows, sides, fragment, edge, result, cell, side, readers, takers}
use Rattle.net_closing.specs.Back.{FetchHasTask, FetchesInTask, HasTask, IsFrom, SideHasTask}
use Rattle.net_closing.proofs.PipeLemmas.{all_at, all_flat}
use Rattle.net_closing.proofs.SeatLemmas.{all_in_pipe, all_in_task, all_listed, count_in_pipe}

-- the edge at a place of a list of them is this one
abbrev IsEdgeAt : List EdgeId → ℕ → EdgeId → Type 0
IsEdgeAt edges k e = (other : EdgeId) → slice_get edges k ≡ Some other → other ≡ e

ranged : (n k j : ℕ) → slice_get (range_with_len 0 n) k ≡ Some j → j ≡ k
ranged n k j is =
    let lt : k < n = omega (arith, slice_get_within (range_with_len 0 n) k j is, length-range_with_len 0 n) in
    omega (arith, get_or_from_slice_get (range_with_len 0 n) k j j is, get_or-range_with_len 0 n k j lt)

mapped_some : {X Y : Type 0} (f : X → Y) (o : Option X) (y : Y) → option_map f o ≡ Some y → (x : X) × (o ≡ Some x) × (y ≡ f x)
mapped_some f None y is = cc
mapped_some f (Some x) y is = (x, refl, same_Some y (f x) (sym is))

seat_edge : (outlets : List OutletState) (k : ℕ) (seat : GatherPutState) → slice_get (map (λ (o : OutletState). o.seat) outlets) k ≡ Some seat
    → slice_get (map (λ (o : OutletState). o.seat.edge) outlets) k ≡ Some seat.edge
seat_edge [] k seat is = cc
seat_edge (o ∷ outlets) zero seat is = ap (option_map (λ (g : GatherPutState). g.edge)) is
seat_edge (o ∷ outlets) (suc k) seat is = seat_edge outlets k seat is

outlet_edge : (output : Output) (edges : List EdgeId) (target : Target) (k : ℕ) (e : EdgeId) → IsPutFor output edges target → IsEdgeAt edges k e
    → All (λ (s : GatherPutState). s.edge ≡ e) (listed (slice_get (puts_of target) k))
outlet_edge output edges target k e put at = all_listed (λ (s : GatherPutState). s.edge ≡ e) (slice_get (puts_of target) k) (λ s is.
    let own = ap (λ (t : Target). slice_get (puts_of t) k) (sym put.is) ∙ is in
    at s.edge (ap (λ (es : List EdgeId). slice_get es k) (sym put.of) ∙ seat_edge put.put.outlets k s own))

chosen : {X : Type 0} (P : X → Type 0) (b : Bool) (xs : List X) → (b ≡ true → All P xs) → All P (if b then xs else [])
chosen P true xs all = all refl
chosen P false xs all = All-nil P

module _ (net : NetForm) (drivers : List DriverState) (are : AreDriversOf net drivers) where
  abbrev OfEdge : ℕ → ℕ → GatherPutState → Type 0
  OfEdge of task s = s.edge ≡ net.links.gathers of task

  puts_edge : (at : ℕ) (pipe : PipeForm) → slice_get net.layout at ≡ Some pipe → (of task : ℕ) (target : TargetForm) → pipe.target ≡ target → HasTask of task pipe target
      → All (OfEdge of task) (puts_from drivers of task pipe target)
  puts_edge at pipe there of task result is has = All-nil (OfEdge of task)
  puts_edge at pipe there of task (cell on) is has = All-nil (OfEdge of task)
  puts_edge at pipe there of task (takers other) is has = All-nil (OfEdge of task)
  puts_edge at pipe there of task (side other) is has = chosen (OfEdge of task) (other == of) (in_task (put_to 0) drivers pipe task) (λ test.
      let same = eqb-true other of test in
      all_in_task net drivers are at pipe there (OfEdge of task) (put_to 0) task (has same) (λ lane d own.
      let put = subst (λ (t : TargetForm). IsTargetFor net at task t d.target) is own.target in
      outlet_edge _ (net.links.gathers other task ∷ []) d.target 0 (net.links.gathers of task) put
      (λ e there. same_Some e (net.links.gathers other task) (sym there) ∙ ap (λ (o : ℕ). net.links.gathers o task) same)))
  puts_edge at pipe there of task (readers output other) is has = chosen (OfEdge of task) (other == of) (in_pipe (put_to task) drivers pipe) (λ test.
      let same = eqb-true other of test in
      all_in_pipe net drivers are at pipe there (OfEdge of task) (put_to task) (λ t lane d own.
      let put = subst (λ (f : TargetForm). IsTargetFor net at t f d.target) is own.target in
      outlet_edge _ (edges_to net other) d.target task (net.links.gathers of task) put (λ e there. reached other of same e there)))
    where
      reached : (other of : ℕ) → other ≡ of → IsEdgeAt (edges_to net other) task (net.links.gathers of task)
      reached other of same e there =
          let tasks = range_with_len 0 (tasks_at net.layout other) in
          let m = mapped_some (net.links.gathers other) (slice_get tasks task) e (sym (slice_get-map (net.links.gathers other) tasks task) ∙ there) in
          m.2 ∙ ap (net.links.gathers other) (ranged (tasks_at net.layout other) task m.0 m.1) ∙ ap (λ (o : ℕ). net.links.gathers o task) same

  -- those who put for a pipe in a task put to the edge of that task
  pub puts_are_of : (of task : ℕ) → All (SideHasTask of task) net.layout → All (OfEdge of task) (puts_into net.layout drivers of task)
  puts_are_of of task have = all_flat (OfEdge of task) (λ (pipe : PipeForm). puts_from drivers of task pipe pipe.target) net.layout
      (λ at pipe there. puts_edge at pipe there of task pipe.target refl (all_at (SideHasTask of task) net.layout at pipe have there))

  abbrev TakesOf : ℕ → ℕ → GatherTakeState → Type 0
  TakesOf of task t = t.edge ≡ net.links.gathers of task

  take_edge : (at of task : ℕ) (form : SourceForm) (source : Source) → IsFrom at of form → IsSourceFor net at task form source → All (TakesOf of task) (listed (gather_take_of source))
  take_edge at of task (table place columns kinds) source from is = absurd from
  take_edge at of task (rows kinds list) source from is = absurd from
  take_edge at of task (fragment number) source from is = absurd from
  take_edge at of task sides source from is =
      subst (λ (s : Source). All (TakesOf of task) (listed (gather_take_of s))) (sym is.is)
      (All-cons (TakesOf of task) is.local.seat [] (is.seat ∙ ap (λ (o : ℕ). net.links.gathers o task) (sym from)) (All-nil (TakesOf of task)))
  take_edge at of task (edge pipe numbers) source from is =
      subst (λ (s : Source). All (TakesOf of task) (listed (gather_take_of s))) (sym is.is)
      (All-cons (TakesOf of task) is.fetch.local.seat [] (is.seat ∙ ap (λ (o : ℕ). net.links.gathers o task) (sym from)) (All-nil (TakesOf of task)))

  abbrev DealsTo : ℕ → ℕ → SpreadPutState → Type 0
  DealsTo of task s = s.edge ≡ net.links.spreads of task

  abbrev TakesAt : ℕ → ℕ → SpreadTakeState → Type 0
  TakesAt of task s = s.edge ≡ net.links.spreads of task

  deals_edge : (at : ℕ) (pipe : PipeForm) → slice_get net.layout at ≡ Some pipe → (of task : ℕ) (target : TargetForm) → pipe.target ≡ target → FetchesInTask of task pipe target
      → All (DealsTo of task) (deals_from drivers of task pipe target)
  deals_edge at pipe there of task result is has = All-nil (DealsTo of task)
  deals_edge at pipe there of task (cell on) is has = All-nil (DealsTo of task)
  deals_edge at pipe there of task (side other) is has = All-nil (DealsTo of task)
  deals_edge at pipe there of task (readers output other) is has = All-nil (DealsTo of task)
  deals_edge at pipe there of task (takers other) is has = chosen (DealsTo of task) (other == of) (in_task deals_in drivers pipe task) (λ test.
      let same = eqb-true other of test in
      all_in_task net drivers are at pipe there (DealsTo of task) deals_in task (has same) (λ lane d own.
      let deal = subst (λ (t : TargetForm). IsTargetFor net at task t d.target) is own.target in
      subst (λ (t : Target). All (DealsTo of task) (listed (deal_of t))) (sym deal.is)
      (All-cons (DealsTo of task) deal.deal.seat [] (deal.seat ∙ ap (λ (o : ℕ). net.links.spreads o task) same) (All-nil (DealsTo of task)))))

  pub deals_are_of : (of task : ℕ) → All (FetchHasTask of task) net.layout → All (DealsTo of task) (deals_into net.layout drivers of task)
  deals_are_of of task have = all_flat (DealsTo of task) (λ (pipe : PipeForm). deals_from drivers of task pipe pipe.target) net.layout
      (λ at pipe there. deals_edge at pipe there of task pipe.target refl (all_at (FetchHasTask of task) net.layout at pipe have there))

  module _ (at : ℕ) (pipe : PipeForm) (there : slice_get net.layout at ≡ Some pipe) where
    -- those who take in a task take from its edge
    pub takes_are_of : (of task : ℕ) → IsFrom at of pipe.source → task < pipe.tasks → All (TakesOf of task) (in_task gather_takes_in drivers pipe task)
    takes_are_of of task from in_tasks = all_in_task net drivers are at pipe there (TakesOf of task) gather_takes_in task in_tasks
        (λ lane d own. take_edge at of task pipe.source d.source from own.source)

    pub spread_takes_are_of : (number task : ℕ) → pipe.source ≡ fragment number → task < pipe.tasks → All (TakesAt at task) (in_task spread_takes_in drivers pipe task)
    spread_takes_are_of number task is in_tasks = all_in_task net drivers are at pipe there (TakesAt at task) spread_takes_in task in_tasks (λ lane d own.
        let remote = subst (λ (f : SourceForm). IsSourceFor net at task f d.source) is own.source in
        subst (λ (s : Source). All (TakesAt at task) (listed (spread_take_of s))) (sym remote.is)
        (All-cons (TakesAt at task) remote.remote.seat [] remote.seat (All-nil (TakesAt at task))))

    module _ (place : ℕ) (columns : List ℕ) (kinds : List SqlType) (is : pipe.source ≡ table place columns kinds) where
      abbrev OfClaims : SeatState → Type 0
      OfClaims s = s.claims ≡ net.links.claims at

      pub claims_are_of : All OfClaims (in_pipe claims_in drivers pipe)
      claims_are_of = all_in_pipe net drivers are at pipe there OfClaims claims_in (λ task lane d own.
          let scan = subst (λ (f : SourceForm). IsSourceFor net at task f d.source) is own.source in
          subst (λ (s : Source). All OfClaims (listed (claim_of s))) (sym scan.is) (All-cons OfClaims scan.scan.seat [] scan.seat (All-nil OfClaims)))

      claims_count : length (in_pipe claims_in drivers pipe) ≡ pipe.tasks * pipe.drivers
      claims_count = count_in_pipe net drivers are at pipe there claims_in (λ task lane d own.
          let scan = subst (λ (f : SourceForm). IsSourceFor net at task f d.source) is own.source in
          subst (λ (s : Source). length (listed (claim_of s)) ≡ 1) (sym scan.is) refl)

      -- they are all seats, where there is one
      pub claims_are_all : (net.links.claims at).of.seats ≡ max (pipe.tasks * pipe.drivers) 1 → 0 < length (in_pipe claims_in drivers pipe) → AreAllOf (net.links.claims at) (in_pipe claims_in drivers pipe)
      claims_are_all seats some =
          let count = claims_count in
          record { same = claims_are_of; all = omega arith; some = some }

      -- and so they are if they are all seats of any claims
      pub claims_are_these : AreAll (in_pipe claims_in drivers pipe) → AreAllOf (net.links.claims at) (in_pipe claims_in drivers pipe)
      claims_are_these (claims, all) = subst (λ (k : ClaimsId). AreAllOf k (in_pipe claims_in drivers pipe)) (same_claims (in_pipe claims_in drivers pipe) all claims_are_of) all
        where
          same_claims : (seats : List SeatState) → AreAllOf claims seats → All OfClaims seats → claims ≡ net.links.claims at
          same_claims [] all own = absurd (omega (arith, all.some))
          same_claims (s ∷ seats) all own = sym (All-head (λ (x : SeatState). x.claims ≡ claims) s seats all.same) ∙ All-head OfClaims s seats own
