-- How many rows passed the dynamic filters of a run.
use Rattle.std.specs.Prelude.{◌≡◌, ℕ, List, All, Contains, true}
use Rattle.std.specs.List.Sorted.{IsStrictlyIncreasing}
use Rattle.operator_core.specs.Rows.{Row}
use Rattle.driver_loop.specs.Drivers.{DriverState}
use Rattle.plan_docs.specs.declared.node.DynamicFilter.{DynamicFilter}
use Rattle.plan_docs.specs.Plans.{PlanForm}
use Rattle.plan_reader.specs.Trees.{tree_of}
use Rattle.plan_trees.specs.declared.tree.Pair.{Pair}
use Rattle.plan_layout.specs.Pipes.{PipeForm}
use Rattle.net_laws.specs.PlanFilters.{IsCountOfFilter, IsFilterOfPlan}
use Rattle.net_laws.specs.Later.{AreLater}
use Rattle.net_laws.specs.Nets.{AreDriversOf, NetForm}
use Rattle.net_laws.specs.Settled.{AreSettled}
use Rattle.net_closing.specs.Closing.{AreWholeDrivers}
use Rattle.net_closing.specs.Counts.{AreCounts, filters_in}
use Rattle.net_closing.specs.declared.counts.FilterPassed.{FilterPassed}
use Rattle.task_executor.specs.Nets.{NetState, layout_in}
use Rattle.task_executor.specs.Turns.{AreFinished}

-- whatever net of the layout these are the drivers of, it is known of them what is known once all were taken apart
abbrev pub Settles : List PipeForm → List DriverState → Type 0
Settles layout drivers = (net : NetForm) → net.layout ≡ layout → AreDriversOf net drivers → AreSettled net drivers

-- these are the rows that passed the dynamic filters of the drivers of a net, all of which were finished by their turns
pub record HavePassed (net : NetState) (counts : List FilterPassed) : Type 0 where
  pub after : List DriverState
  pub later : AreLater net.drivers after
  pub whole : AreWholeDrivers after
  pub finished : AreFinished after
  pub settled : Settles (layout_in net) after
  pub are : AreCounts (layout_in net) after counts

-- the count is that of a dynamic filter of the plan that is waited for, over its tables
pub record IsCountIn (plan : PlanForm) (tables : List (List Row)) (count : FilterPassed) : Type 0 where
  pub own : DynamicFilter
  pub waits : own.wait ≡ true
  pub id : count.filter ≡ own.id
  pub is : IsCountOfFilter plan (tree_of plan) tables own count.rows

-- so is each of these, by ascending id, none of which comes twice, and each filter that is waited for has one
pub record AreCountsIn (plan : PlanForm) (tables : List (List Row)) (counts : List FilterPassed) : Type 0 where
  pub each : All (IsCountIn plan tables) counts
  pub ascending : IsStrictlyIncreasing (filters_in counts)
  pub all : (join : ℕ) (on : List Pair) (own : DynamicFilter) → IsFilterOfPlan plan join on own → own.wait ≡ true
      → (count : FilterPassed) × Contains counts count × (count.filter ≡ own.id)
