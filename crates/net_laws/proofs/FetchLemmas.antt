-- What passes a driver that fetches in a task: from the edge into which others put to those that take from it.
use Rattle.std.proofs.Common.{◌≡◌, ℕ, ◌<◌, List, [], ◌∷◌, ◌++◌, Bool, true, refl, subst, sym, ap, ◌∙◌, arith}
use Rattle.std.specs.Prelude.{All, if◌then◌else◌}
use Rattle.std.proofs.lemmas.Bool.{eq-eqb}
use Rattle.std.proofs.lemmas.List.Elements.{All-head}
use Rattle.operator_core.specs.Stages.{Linked, last_finished}
use Rattle.output_buffer.specs.Seats.{EdgeId, GatherTakeState, SpreadPutState}
use Rattle.driver_ends.specs.Deals.{rows_dealt}
use Rattle.driver_ends.specs.Ends.{remote_taken}
use Rattle.driver_ends.specs.Sources.{HasRemoteTaken, IsRemoteEnded, RemoteState}
use Rattle.driver_loop.specs.Drivers.{DriverState}
use Rattle.driver_loop.specs.Ends.{IsBegun, IsDrained, has_ended, is_told, rows_taken, was_given}
use Rattle.driver_loop.specs.Seats.{KeepsEnds, deal_of, gather_take_of}
use Rattle.driver_loop.specs.Sources.{Source}
use Rattle.driver_loop.specs.declared.stage.Stage.{Stage}
use Rattle.driver_loop.specs.declared.target.Target.{Target}
use Rattle.driver_loop.specs.contracts.stage.StageOperator.TheImpl.{ghosts}
use Rattle.plan_run_laws.specs.Stops.{Hop}
use Rattle.source_laws.specs.Edges.{AreTold, GatherCameBack, KeepsPutter, Putter, SpreadCameBack, putting_seats, rows_for, rows_from, taking_seats}
use Rattle.source_laws.proofs.HopLemmas.{hop_when}
use Rattle.source_laws.proofs.TakeLemmas.{dealt_edge_hop, fetched_edge_hop}
use Rattle.plan_layout.specs.Pipes.{PipeForm, driver_number}
use Rattle.driver_net_laws.specs.Nets.{AreStagesFor, IsDealFor, IsFetchFor, IsSourceFor, IsTargetFor, NetForm, step_stages}
use Rattle.driver_net_laws.specs.Settled.{GatherIsBack, SourceIsBack, deals_from, deals_in, deals_into, gather_takes_in, in_task, listed, puts_into}
use Rattle.driver_net_laws.specs.States.{Flow}
use Rattle.net_laws.specs.Giving.{IsPlainlyFetched}
use Rattle.net_laws.proofs.ListLemmas.{All-flat_at, All-one, same_one}
use Rattle.net_laws.proofs.DriverLemmas.{AllKnown, Known, alone_is, lane_is}
use Rattle.net_laws.proofs.FrontLemmas.{cut, none_in_front}

-- what one driver fetched from an edge of its own
fetch_source_hop : (of : EdgeId) (source : Source) → IsFetchFor of source → IsBegun source → (has_ended source ≡ true → IsDrained source)
    → (putters : List Putter) → All KeepsPutter putters → (take : GatherTakeState) → listed (gather_take_of source) ≡ take ∷ [] → GatherCameBack (putting_seats putters) take
    → Hop (rows_for putters) (rows_taken source) (has_ended source ≡ true) (AreTold putters)
fetch_source_hop of source are begun drained putters keeps take one back =
    let own_drained = subst (λ (s : Source). has_ended s ≡ true → IsDrained s) are.is drained in
    let own : are.fetch.local.seat ≡ take = same_one (sym (ap (λ (s : Source). listed (gather_take_of s)) are.is) ∙ one) in
    subst (λ (s : Source). Hop (rows_for putters) (rows_taken s) (has_ended s ≡ true) (AreTold putters)) (sym are.is)
    (hop_when own_drained (fetched_edge_hop putters are.fetch keeps (subst (GatherCameBack (putting_seats putters)) (sym own) back) (subst IsBegun are.is begun)))

module _ (net : NetForm) (drivers : List DriverState) (flow : Flow) (at n : ℕ) (is : IsPlainlyFetched net.layout at n)
    (known : AllKnown net drivers flow is.fetched.place is.fetched.pipe) (back : SourceIsBack net drivers is.fetched.place is.fetched.pipe is.fetched.pipe.source)
    (task : ℕ) (in_tasks : task < n) where
  abbrev fetcher : PipeForm
  fetcher = is.fetched.pipe

  k : Known net drivers flow is.fetched.place fetcher task 0
  k = known task 0 (omega (arith, is.fetched.tasks, in_tasks)) (omega (arith, is.fetched.alone))

  abbrev source : Source
  source = k.driver.source

  fetches : IsFetchFor (net.links.gathers at task) source
  fetches = subst (λ form. IsSourceFor net is.fetched.place task form source) is.fetched.source k.is.source

  deals : IsDealFor (net.links.spreads at task) k.driver.target
  deals = subst (λ form. IsTargetFor net is.fetched.place task form k.driver.target) is.fetched.target k.is.target

  no_stage : k.driver.stages ≡ []
  no_stage =
      let none = none_in_front net is.fetched.place fetcher task 0 k.driver k.is is.unread in
      let rest = step_stages fetcher.steps k.driver.stages in
      let plain = subst (λ steps. AreStagesFor net task (net.types is.fetched.place).halved steps
      (net.types is.fetched.place).taken rest) is.plain k.is.stages in
      cut fetcher.steps k.driver.stages ∙ ap (λ (first : List Stage). first ++ rest) none ∙ plain

  is_back : GatherIsBack net.layout drivers at task (in_task gather_takes_in drivers fetcher task)
  is_back = (subst (SourceIsBack net drivers is.fetched.place fetcher) is.fetched.source back) task (omega (arith, is.fetched.tasks, in_tasks))

  own_seat : listed (gather_take_of source) ≡ is_back.take ∷ []
  own_seat = sym (alone_is gather_takes_in drivers fetcher task is.fetched.alone ∙ lane_is gather_takes_in drivers fetcher task 0 k.driver k.there) ∙ is_back.one

  passed_on : rows_dealt deals.deal ≡ rows_taken source
  passed_on =
      let rows = flow.gave (driver_number fetcher task 0) in
      let given = subst (λ (t : Target). was_given t rows) deals.is k.given in
      let linked = subst (λ (stages : List Stage). Linked ghosts stages (rows_taken source) rows) no_stage (k.goes.links k.still.whole) in
      given ∙ sym linked

  told_after : deals.deal.is_told ≡ true → has_ended source ≡ true
  told_after told =
      subst (λ (stages : List Stage). last_finished ghosts (has_ended source) stages ≡ true) no_stage (k.goes.told k.still.whole (ap is_told deals.is ∙ told))

  own_deal : deals_from drivers at task fetcher fetcher.target ≡ deals.deal.seat ∷ []
  own_deal =
      ap (deals_from drivers at task fetcher) is.fetched.target
      ∙ ap (λ (b : Bool). if b then in_task deals_in drivers fetcher task else []) (eq-eqb at at refl)
      ∙ alone_is deals_in drivers fetcher task is.fetched.alone ∙ lane_is deals_in drivers fetcher task 0 k.driver k.there
      ∙ ap (λ (t : Target). listed (deal_of t)) deals.is

  -- the one seat that deals out is its own
  only_deal : (put : SpreadPutState) → deals_into net.layout drivers at task ≡ put ∷ [] → put ≡ deals.deal.seat
  only_deal put one =
      let all = subst (All (λ (seat : SpreadPutState). put ≡ seat)) (sym one) (All-one (λ (seat : SpreadPutState). put ≡ seat) put refl) in
      let own = All-flat_at (λ (pipe : PipeForm). deals_from drivers at task pipe pipe.target) (λ (seat : SpreadPutState). put ≡ seat) net.layout is.fetched.place fetcher is.fetched.is all in
      All-head (λ (seat : SpreadPutState). put ≡ seat) deals.deal.seat [] (subst (All (λ (seat : SpreadPutState). put ≡ seat)) own_deal own)

  pub fetched_hop : (putters : List Putter) → All KeepsPutter putters → putting_seats putters ≡ puts_into net.layout drivers at task
      → (put : SpreadPutState) → deals_into net.layout drivers at task ≡ put ∷ []
      → (takers : List RemoteState) → SpreadCameBack put (taking_seats takers) → All (λ (s : RemoteState). HasRemoteTaken s (remote_taken s)) takers
      → Hop (rows_for putters) (rows_from takers) (All IsRemoteEnded takers) (AreTold putters)
  fetched_hop putters keeps seats put one others spread taken =
      dealt_edge_hop (rows_for putters) (rows_taken source) (has_ended source ≡ true) (AreTold putters) deals.deal others
      (fetch_source_hop (net.links.gathers at task) source fetches k.still.begun k.still.drained putters keeps is_back.take own_seat
      (subst (λ puts. GatherCameBack puts is_back.take) (sym seats) is_back.back))
      passed_on told_after (subst KeepsEnds deals.is k.still.ends) (subst (λ (seat : SpreadPutState). SpreadCameBack seat (taking_seats others)) (only_deal put one) spread) taken
