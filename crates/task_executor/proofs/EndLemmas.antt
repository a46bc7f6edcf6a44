-- What follows of a run once its drivers were taken apart.
use Rattle.std.proofs.Common.{Result, ◌≡◌, ℕ, ◌<◌, zero, suc, List, [], ◌∷◌, length, get_or, Option, Some, None, refl, ap, sym, ◌∙◌, subst, arith}
use Rattle.std.specs.Prelude.{All, IfOk, MatchResult, slice_get, option_map, true, unwrap_or}
use Rattle.sql_values.specs.declared.fail.Fail.{Fail}
use Rattle.operator_core.specs.Rows.{Row}
use Rattle.driver_loop.specs.Drivers.{DriverState, IsWhole}
use Rattle.driver_loop.specs.Ends.{rows_handed}
use Rattle.driver_loop.specs.declared.run_fault.RunFault.{RunFault}
use Rattle.driver_loop.specs.declared.run_fault.RunFault.TheVariants.{ExprFailed, Memory}
use Rattle.plan_docs.specs.Plans.{FragmentForm, PlanForm}
use Rattle.plan_reader.specs.Trees.{tree_of}
use Rattle.plan_trees.specs.Allowed.{Allows, Gives, strict}
use Rattle.plan_trees.specs.Stopped.{MayFail}
use Rattle.plan_run_laws.specs.Spreads.{Tables}
use Rattle.plan_fit_laws.specs.Consistent.{IsConsistent}
use Rattle.plan_layout.specs.declared.pipe.Parallelism.{Parallelism}
use Rattle.plan_layout.specs.Layouts.{layout_of}
use Rattle.plan_layout.specs.Pipes.{PipeForm, driver_number}
use Rattle.tree_evaluator.specs.Fits.{FitsTables}
use Rattle.net_laws.specs.Nets.{AreDriversOf, NetForm}
use Rattle.net_laws.specs.Settled.{AreSettled}
use Rattle.net_laws.specs.Roots.{IsLoneRoot}
use Rattle.net_closing.specs.Back.{HasNet}
use Rattle.net_closing.specs.Left.{handed_in}
use Rattle.net_closing.specs.Results.{IsResultOf}
use Rattle.net_laws.specs.Later.{AreLater}
use Rattle.net_laws.proofs.LaterLemmas.{drivers_on}
use Rattle.net_making.specs.Slots.{IsNew}
use Rattle.task_executor.specs.Nets.{FailsFor, IsNetOf, IsOverTables, NetState, layout_in, plan_in}
use Rattle.task_executor.specs.declared.answer.RunDone.{RunDone}
use Rattle.net_closing.specs.Closing.{AreWholeDrivers}
use Rattle.task_executor.specs.Passed.{HavePassed, Settles}
use Rattle.task_executor.specs.Turns.{AreFailing, AreFinished, AreUnfailed}

-- what the laws of nets say of the plan
abbrev GivesRows : PlanForm → Type 0
GivesRows plan =
    IsConsistent plan → (p : Parallelism) → 0 < p.tasks → (f : FragmentForm) → slice_get plan.fragments 0 ≡ Some f → (net : NetForm) (drivers : List DriverState)
    → net.layout ≡ layout_of p plan → AreDriversOf net drivers → AreSettled net drivers → FitsTables (tree_of plan) net.tables
    → (root : PipeForm) → IsLoneRoot net.layout root → All (λ (d : DriverState). d.is_finished ≡ true) drivers
    → (d : DriverState) → slice_get drivers (driver_number root 0 0) ≡ Some d → Gives strict (tree_of plan) net.tables (rows_handed d.target)

abbrev FailsSo : PlanForm → Type 0
FailsSo plan =
    IsConsistent plan → (p : Parallelism) → 0 < p.tasks → (f : FragmentForm) → slice_get plan.fragments 0 ≡ Some f → (net : NetForm) (drivers : List DriverState)
    → net.layout ≡ layout_of p plan → AreDriversOf net drivers → AreSettled net drivers → FitsTables (tree_of plan) net.tables
    → (root : PipeForm) → IsLoneRoot net.layout root → (number : ℕ) (d : DriverState) → slice_get drivers number ≡ Some d
    → (node : ℕ) (kind : Fail) → d.fault ≡ Some (ExprFailed node kind) → MayFail (tree_of plan) net.tables node kind

-- the driver whose rows were handed over
record HandedBy (drivers : List DriverState) (number : ℕ) (given : List Row) : Type 0 where
  d : DriverState
  there : slice_get drivers number ≡ Some d
  rows : rows_handed d.target ≡ given

handed_by : (drivers : List DriverState) (number : ℕ) (given : List Row) (o : Option DriverState) → slice_get drivers number ≡ o → unwrap_or (option_map handed_in o) [] ≡ given ∷ []
    → HandedBy drivers number given
handed_by drivers number given None at is = absurd cc
handed_by drivers number given (Some d) at is = record { d = d; there = at; rows = cc is }

found : (drivers : List DriverState) (i : ℕ) (d : DriverState) → i < length drivers → d ≡ get_or drivers i d → slice_get drivers i ≡ Some d
found [] i d lt is = absurd (omega (arith, lt))
found (x ∷ drivers) zero d lt is = ap Some (sym is)
found (x ∷ drivers) (suc i) d lt is = found drivers i d (omega (arith, lt)) is

lone_root : (layout : List PipeForm) (drivers : List DriverState) (given : List Row) (r : IsResultOf layout drivers given) → IsLoneRoot layout r.only.pipe
lone_root layout drivers given r = record { at = r.at; is = r.only.is; only = r.only.once; lone = r.driver }

-- drivers without a fault lacked no memory
pub whole_unfailed : (after : List DriverState) → AreUnfailed after → AreWholeDrivers after
whole_unfailed after unfailed = λ k d less. subst IsWhole (sym (unfailed k d less)) tt

-- drivers that were just made have no fault
pub new_unfailed : (drivers : List DriverState) → All IsNew drivers → AreUnfailed drivers
new_unfailed drivers fresh = λ k d less. (fresh k d less).unfailed

-- the drivers after their turns are those of a net of the layout
pub net_after : (tables : Tables) (net : NetState) (after : List DriverState) → IsOverTables tables net → AreLater net.drivers after → AreWholeDrivers after → HasNet (layout_in net) after
net_after tables net after (split, made) later whole = record {
  net = made.net;
  laid = made.of;
  are = drivers_on made.net net.drivers after made.are later whole;
  seats = made.seats;
}

pub run_gives : (tables : Tables) (net : NetState) (after : List DriverState) (pages rows : List Row) → GivesRows (plan_in net) → IsNetOf (plan_in net) tables net → AreLater net.drivers after
    → AreWholeDrivers after → AreFinished after → Settles (layout_in net) after → IsResultOf (layout_in net) after pages → rows ≡ pages
    → Allows (tree_of (plan_in net)) tables rows
run_gives tables net after pages rows gives is later whole finished settles result same =
    let made = is.over.1 in
    let are = drivers_on made.net net.drivers after made.are later whole in
    let settled = settles made.net made.of are in
    let h = handed_by after (driver_number result.only.pipe 0 0) pages (slice_get after (driver_number result.only.pipe 0 0)) refl result.rows in
    let fits = subst (λ (ts : Tables). FitsTables (tree_of (plan_in net)) ts) (sym made.over) is.fits in
    let root = subst (λ (l : List PipeForm). IsLoneRoot l result.only.pipe) (sym made.of) (lone_root (layout_in net) after pages result) in
    let given = gives is.consistent is.parallelism is.some is.first is.is_first made.net after (made.of ∙ is.laid) are settled fits result.only.pipe root finished h.d h.there in
    subst (λ (ts : Tables). Gives strict (tree_of (plan_in net)) ts rows) made.over
    (subst (λ (list : List Row). Gives strict (tree_of (plan_in net)) made.net.tables list) (h.rows ∙ sym same) given)

pub run_fails : (tables : Tables) (net : NetState) (after : List DriverState) (pages : List Row) (fault : RunFault) → FailsSo (plan_in net) → IsNetOf (plan_in net) tables net
    → AreLater net.drivers after → Settles (layout_in net) after → IsResultOf (layout_in net) after pages → AreFailing after fault
    → FailsFor (tree_of (plan_in net)) tables fault
run_fails tables net after pages Memory fails is later settles result failing = tt
run_fails tables net after pages (ExprFailed node kind) fails is later settles result (whole, (d, at, failed)) =
    let made = is.over.1 in
    let are = drivers_on made.net net.drivers after made.are later whole in
    let settled = settles made.net made.of are in
    let fits = subst (λ (ts : Tables). FitsTables (tree_of (plan_in net)) ts) (sym made.over) is.fits in
    let root = subst (λ (l : List PipeForm). IsLoneRoot l result.only.pipe) (sym made.of) (lone_root (layout_in net) after pages result) in
    let there = found after at.0 d at.1 (sym at.2) in
    subst (λ (ts : Tables). MayFail (tree_of (plan_in net)) ts node kind) made.over
    (fails is.consistent is.parallelism is.some is.first is.is_first made.net after (made.of ∙ is.laid) are settled fits result.only.pipe root at.0 d there node kind failed)

-- a net of a plan is one of its own plan
pub own : (plan : PlanForm) (tables : Tables) (net seen : NetState) → net ≡ seen → IsNetOf plan tables net → IsNetOf (plan_in seen) tables seen
own plan tables net seen same is =
    subst (λ (n : NetState). IsNetOf (plan_in n) tables n) same (subst (λ (p : PlanForm). IsNetOf p tables net) (sym is.of) is)

pub of_plan : (plan : PlanForm) (tables : Tables) (net seen : NetState) (answer : Result RunDone RunFault) → net ≡ seen → IsNetOf plan tables net
    → MatchResult answer (λ done. Allows (tree_of (plan_in seen)) tables done.rows) (FailsFor (tree_of (plan_in seen)) tables)
    → MatchResult answer (λ done. Allows (tree_of plan) tables done.rows) (FailsFor (tree_of plan) tables)
of_plan plan tables net seen answer same is says =
    subst (λ (p : PlanForm). MatchResult answer (λ done. Allows (tree_of p) tables done.rows) (FailsFor (tree_of p) tables))
    (ap (λ (n : NetState). (plan_in n)) (sym same) ∙ is.of) says

-- what passed the filters of a net's drivers
pub passed_of_net : (net seen : NetState) (answer : Result RunDone RunFault) → net ≡ seen → IfOk answer (λ done. HavePassed seen done.passed) → IfOk answer (λ done. HavePassed net done.passed)
passed_of_net net seen answer same passed = subst (λ (n : NetState). IfOk answer (λ done. HavePassed n done.passed)) (sym same) passed
