-- What came back, once it was given back.
use Rattle.std.proofs.Common.{◌≡◌, ◌⊎◌, inl, inr, ◌+◌, ◌<◌, ◌≤◌, ◌++◌, ◌∙◌, ◌==◌, ℕ, zero, suc, List, [], ◌∷◌, false, Option, Some, arith, length, sym, subst, ap}
use Rattle.std.specs.Prelude.{All, slice_get}
use Rattle.std.proofs.lemmas.List.Elements.{All-head}
use Rattle.std.proofs.lemmas.Bool.{cases_lt, false≢true}
use Rattle.std.proofs.lemmas.Option.{same_Some}
use Rattle.bag_laws.specs.Weights.{SameWeights, Within}
use Rattle.split_source.specs.Gathered.{AreDistinct, AreWhole}
use Rattle.split_source.specs.Seats.{AreAll, SeatState}
use Rattle.output_buffer.specs.Seats.{AreGatherPutsOf, AreSpreadTakesOf, GatherPutState, GatherTakeState, HasEnded, HaveEnded, SpreadPutState, SpreadTakeState, put_by, taken_by}
use Rattle.source_laws.specs.Edges.{GatherCameBack, HavePutEnds, SpreadCameBack}
use Rattle.driver_loop.specs.Drivers.{DriverState}
use Rattle.plan_layout.specs.Pipes.{PipeForm, SourceForm, table, rows, sides, fragment, edge}
use Rattle.driver_net_laws.specs.Nets.{AreDriversOf, NetForm}
use Rattle.driver_net_laws.specs.Settled.{GatherIsBack, SourceIsBack, SpreadIsBack, claims_in, deals_into, gather_takes_in, in_pipe, in_task, listed, puts_into, spread_takes_in}
use Rattle.net_closing.specs.Back.{CameBack, ClaimsAreBack, FetchHasTask, HasNet, IsOfNet, IsReading, IsScanning, IsTakingFrom, SideHasTask}
use Rattle.net_closing.specs.Left.{StayParts, at_place}
use Rattle.net_closing.specs.declared.parts.Parts.{Parts}
use Rattle.net_closing.proofs.EdgeLemmas.{claims_are_all, claims_are_these, deals_are_of, puts_are_of, spread_takes_are_of, takes_are_of}
use Rattle.net_closing.proofs.SeatLemmas.{at_first}

-- seats that were collected from the first places of rows
pub piped : {X : Type 0} (of : DriverState → Option X) (drivers : List DriverState) (pipe : PipeForm) (start all : List X) → start ≡ []
    → all ≡ start ++ in_pipe (at_place (λ d. listed (of d)) 0) drivers pipe → all ≡ in_pipe (λ d. listed (of d)) drivers pipe
piped of drivers pipe start all none came = came ∙ (λ i. none i ++ in_pipe (at_first of i) drivers pipe)

pub tasked : {X : Type 0} (of : DriverState → Option X) (drivers : List DriverState) (pipe : PipeForm) (task : ℕ) (start all : List X) → start ≡ []
    → all ≡ start ++ in_task (at_place (λ d. listed (of d)) 0) drivers pipe task → all ≡ in_task (λ d. listed (of d)) drivers pipe task
tasked of drivers pipe task start all none came = came ∙ (λ i. none i ++ in_task (at_first of i) drivers pipe task)

pub begun : {X : Type 0} (start all own : List X) → start ≡ [] → all ≡ start ++ own → all ≡ own
begun start all own none came = came ∙ ap (λ (l : List _). l ++ own) none

pub some_if : (n : ℕ) → false ≡ (n == 0) → 0 < n
some_if zero is = absurd (false≢true is)
some_if (suc n) is = omega arith

laid_at : (layout : List PipeForm) (drivers : List DriverState) (n : HasNet layout drivers) (at : ℕ) (pipe : PipeForm) → slice_get layout at ≡ Some pipe → slice_get n.net.layout at ≡ Some pipe
laid_at layout drivers n at pipe there = subst (λ (l : List PipeForm). slice_get l at ≡ Some pipe) (sym n.laid) there

-- the seats of a table are all seats of its claims
pub claims_settle : (parts : Parts) (pipe : PipeForm) (s : IsScanning parts pipe) (seats : List SeatState) → seats ≡ in_pipe claims_in s.net.drivers pipe → 0 < length seats → AreAll seats
claims_settle parts pipe s seats same some =
    let n = s.net.net in
    let own = in_pipe claims_in s.net.drivers pipe in
    let there = laid_at s.layout s.net.drivers n s.at pipe s.there in
    subst AreAll (sym same)
    (n.net.links.claims s.at, claims_are_all n.net s.net.drivers n.are s.at pipe there s.place s.columns s.kinds s.is (n.seats s.at pipe s.place s.columns s.kinds s.there s.is) (subst (λ (l : List SeatState). 0 < length l) same some))

pub claims_back : (drivers : List DriverState) (pipe : PipeForm) (seats : List SeatState) → seats ≡ in_pipe claims_in drivers pipe → AreAll seats → AreDistinct seats → AreWhole seats
    → ClaimsAreBack drivers pipe
claims_back drivers pipe seats same all distinct whole = (subst AreAll same all, subst AreDistinct same distinct, subst AreWhole same whole)

-- those who put for a pipe in a task put to the edge from which it takes
pub gathers_settle : (layout : List PipeForm) (parts : Parts) (pipe : PipeForm) (of task : ℕ) (s : IsTakingFrom layout parts pipe of) → task < pipe.tasks → All (SideHasTask of task) layout
    → (puts : List GatherPutState) (take : GatherTakeState) → puts ≡ puts_into layout s.net.drivers of task → in_task gather_takes_in s.net.drivers pipe task ≡ take ∷ [] → AreGatherPutsOf take.edge puts
gathers_settle layout parts pipe of task s in_tasks have puts take same one =
    let n = s.net.net in
    let drivers = s.net.drivers in
    let there = laid_at layout drivers n s.at pipe s.there in
    let e = n.net.links.gathers of task in
    let own : take.edge ≡ e = All-head (λ (t : GatherTakeState). t.edge ≡ e) take []
    (subst (All (λ (t : GatherTakeState). t.edge ≡ e)) one (takes_are_of n.net drivers n.are s.at pipe there of task s.from in_tasks)) in
    let all : All (λ (p : GatherPutState). p.edge ≡ e) (puts_into n.net.layout drivers of task) =
    puts_are_of n.net drivers n.are of task (subst (All (SideHasTask of task)) (sym n.laid) have) in
    let are : puts ≡ puts_into n.net.layout drivers of task = same ∙ ap (λ (l : List PipeForm). puts_into l drivers of task) (sym n.laid) in
    subst (λ (x : _). AreGatherPutsOf x puts) (sym own) (subst (All (λ (p : GatherPutState). p.edge ≡ e)) (sym are) all)

pub spreads_settle : (layout : List PipeForm) (parts : Parts) (pipe : PipeForm) (at task : ℕ) (s : IsReading layout parts pipe at) → task < pipe.tasks → All (FetchHasTask at task) layout
    → (put : SpreadPutState) (takes : List SpreadTakeState) → deals_into layout s.net.drivers at task ≡ put ∷ [] → takes ≡ in_task spread_takes_in s.net.drivers pipe task → AreSpreadTakesOf put.edge takes
spreads_settle layout parts pipe at task s in_tasks have put takes one same =
    let n = s.net.net in
    let drivers = s.net.drivers in
    let there = laid_at layout drivers n at pipe s.there in
    let e = n.net.links.spreads at task in
    let deals : deals_into n.net.layout drivers at task ≡ put ∷ [] = ap (λ (l : List PipeForm). deals_into l drivers at task) n.laid ∙ one in
    let own : put.edge ≡ e = All-head (λ (p : SpreadPutState). p.edge ≡ e) put []
    (subst (All (λ (p : SpreadPutState). p.edge ≡ e)) deals (deals_are_of n.net drivers n.are at task (subst (All (FetchHasTask at task)) (sym n.laid) have))) in
    subst (λ (x : _). AreSpreadTakesOf x takes) (sym own)
    (subst (All (λ (t : SpreadTakeState). t.edge ≡ e)) (sym same) (spread_takes_are_of n.net drivers n.are at pipe there s.number task s.is in_tasks))

pub spread_back : (layout : List PipeForm) (drivers : List DriverState) (at task : ℕ) (pipe : PipeForm) (put : SpreadPutState) (takes : List SpreadTakeState) → deals_into layout drivers at task ≡ put ∷ []
    → takes ≡ in_task spread_takes_in drivers pipe task → 0 < length takes → length takes ≡ put.takers → Within (taken_by takes) put.put → (HaveEnded put takes → SameWeights (taken_by takes) put.put)
    → SpreadIsBack layout drivers at task (in_task spread_takes_in drivers pipe task)
spread_back layout drivers at task pipe put takes one same some all part whole = record {
  put = put;
  one = one;
  back = subst (SpreadCameBack put) same (record { some = some; all = all; part = part; whole = whole });
}

pub gather_back : (layout : List PipeForm) (drivers : List DriverState) (of task : ℕ) (pipe : PipeForm) (puts : List GatherPutState) (take : GatherTakeState) → puts ≡ puts_into layout drivers of task
    → in_task gather_takes_in drivers pipe task ≡ take ∷ [] → Within take.took (put_by puts) → (HasEnded take → SameWeights take.took (put_by puts)) → (HasEnded take → HavePutEnds puts)
    → GatherIsBack layout drivers of task (in_task gather_takes_in drivers pipe task)
gather_back layout drivers of task pipe puts take same one part whole ends = record {
  take = take;
  one = one;
  back = subst (λ (p : List GatherPutState). GatherCameBack p take) same (record { part = part; whole = whole; ends = ends });
}

-- a net knows the claims that came back as its own
pub source_back : (net : NetForm) (drivers : List DriverState) → AreDriversOf net drivers → (at : ℕ) (pipe : PipeForm) → slice_get net.layout at ≡ Some pipe → (source : SourceForm) → pipe.source ≡ source
    → CameBack net.layout drivers at pipe source → SourceIsBack net drivers at pipe source
source_back net drivers are at pipe there (table place columns kinds) is back = (claims_are_these net drivers are at pipe there place columns kinds is back.0, back.1, back.2)
source_back net drivers are at pipe there (rows kinds list) is back = tt
source_back net drivers are at pipe there sides is back = back
source_back net drivers are at pipe there (fragment number) is back = back
source_back net drivers are at pipe there (edge of numbers) is back = back

-- the pipe at a place is one
pub came_to : (layout : List PipeForm) (drivers : List DriverState) (at : ℕ) (own : PipeForm) → slice_get layout at ≡ Some own → CameBack layout drivers at own own.source
    → (pipe : PipeForm) → slice_get layout at ≡ Some pipe → CameBack layout drivers at pipe pipe.source
came_to layout drivers at own is back pipe there = subst (λ (p : PipeForm). CameBack layout drivers at p p.source) (same_Some own pipe (sym is ∙ there)) back

pub next_back : (layout : List PipeForm) (drivers : List DriverState) (k : ℕ)
    → ((at : ℕ) → at < k → (pipe : PipeForm) → slice_get layout at ≡ Some pipe → CameBack layout drivers at pipe pipe.source)
    → ((pipe : PipeForm) → slice_get layout k ≡ Some pipe → CameBack layout drivers k pipe pipe.source)
    → (at : ℕ) → at < k + 1 → (pipe : PipeForm) → slice_get layout at ≡ Some pipe → CameBack layout drivers at pipe pipe.source
next_back layout drivers k before own at lt pipe there = one (cases_lt at k)
  where
    one : (at < k) ⊎ (k ≤ at) → CameBack layout drivers at pipe pipe.source
    one (inl less) = before at less pipe there
    one (inr le) =
        let same : k ≡ at = omega arith in
        subst (λ (n : ℕ). CameBack layout drivers n pipe pipe.source) same (own pipe (ap (slice_get layout) same ∙ there))

-- what is left of the parts of a net's drivers is still of that net
pub still_of_net : (layout : List PipeForm) (old new : Parts) → IsOfNet layout old → StayParts old new → IsOfNet layout new
still_of_net layout old new net stay = record { drivers = net.drivers; net = net.net; left = stay net.drivers net.left }
