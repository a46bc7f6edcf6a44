-- What is known of the stages in front of those for the steps of scans' pipes, and of the sieves of joins.
use Rattle.std.specs.Prelude.{◌≡◌, ◌<◌, ℕ, List, [], ◌∷◌, Contains, Some, slice_get}
use Rattle.driver_loop.specs.Drivers.{DriverState}
use Rattle.driver_loop.specs.contracts.stage.StageOperator.TheImpl.{ghosts}
use Rattle.driver_loop.specs.declared.stage.Stage.{Stage}
use Rattle.plan_run_laws.specs.RunPlans.{RunPlan}
use Rattle.driver_net_laws.specs.Pipes.{PipeState, stopped}
use Rattle.dyn_filter.specs.declared.domain.Domain.{Domain}
use Rattle.lost_row_laws.specs.Domains.{sieve_of}
use Rattle.lost_row_laws.specs.Sieves.{Sieve}
use Rattle.lost_row_laws.specs.Stops.{AreSure}
use Rattle.sieve_laws.specs.ComingDown.{ComeDown}
use Rattle.sieve_laws.specs.FilterLanes.{AllDrop, FilterNoted}
use Rattle.plan_layout.specs.Pipes.{PipeForm, SourceForm, StepForm, driver_number}
use Rattle.net_laws.specs.RunPipes.{RunsAs}
use Rattle.driver_net_laws.specs.Nets.{front_stages}
use Rattle.net_laws.specs.Throughout.{OfRight, OfScan, Throughout}

-- the sieves of the domains that are known are among these
abbrev pub AreDue : List Sieve → List FilterNoted → Type 0
AreDue sieves [] = Unit {0}
AreDue sieves (f ∷ filters) =
    ((domain : Domain) → f.known ≡ Some domain → Contains sieves (sieve_of (record { column = f.column; domain = domain }))) × AreDue sieves filters

-- the stages drop rows by the domains that their notes know, whose sieves are due
pub record AreSifting (sieves : List Sieve) (stages : List Stage) : Type 0 where
  pub filters : List FilterNoted
  pub drop : AllDrop ghosts filters stages
  pub due : AreDue sieves filters

-- so do the stages in front of those for the steps, of each driver of a scan's pipe, with the sieves that are due at the
-- scan
abbrev pub IsSifted : List PipeForm → List DriverState → (ℕ → List Sieve) → OfScan
IsSifted layout drivers due id own =
    (pipe : PipeForm) → slice_get layout own ≡ Some pipe → (task lane : ℕ) → task < pipe.tasks → lane < pipe.drivers
    → (d : DriverState) → slice_get drivers (driver_number pipe task lane) ≡ Some d → AreSifting (due id) (front_stages pipe.steps d.stages)

-- a join is sure of its sieves, as the pipe of its right side stands
abbrev pub IsSure : (ℕ → PipeState Stage) → (ℕ → List Sieve) → OfRight
IsSure pipes of_join id on n right j = AreSure on n (stopped right (pipes j)) (of_join id)

-- Where some sieves come down to the plan, those that are due at each of its scans come down there, and no driver of a scan
-- drops a row but by these; and each join is sure of its own ones, which `of_join` has by its id.
pub record AreSiftedBy (drivers : List DriverState) (pipes : ℕ → PipeState Stage) (of_join due : ℕ → List Sieve) (layout : List PipeForm) (sieves : List Sieve)
    (n : ℕ) (run : RunPlan) (own w : ℕ) (source : SourceForm) (steps : List StepForm) (r : RunsAs layout n run own w source steps) : Type 0 where
  pub down : ComeDown of_join due sieves run
  pub all : Throughout (IsSifted layout drivers due) (IsSure pipes of_join) layout n run own w source steps r
