-- The net of a plan over its tables, and what a run of it says.
use Rattle.std.specs.Prelude.{◌≡◌, ℕ, ◌<◌, List, Some, map, slice_get}
use Rattle.operator_core.specs.Rows.{Row}
use Rattle.driver_loop.specs.Drivers.{DriverState}
use Rattle.driver_loop.specs.declared.run_fault.RunFault.{RunFault}
use Rattle.driver_loop.specs.declared.run_fault.RunFault.TheVariants.{ExprFailed, Memory}
use Rattle.plan_docs.specs.Plans.{FragmentForm, PlanForm, plan_view}
use Rattle.plan_docs.specs.declared.plan.Plan.{Plan}
use Rattle.plan_reader.specs.Trees.{tree_of}
use Rattle.plan_trees.specs.TreeForms.{TreeForm}
use Rattle.plan_trees.specs.Stopped.{MayFail}
use Rattle.plan_fit_laws.specs.Consistent.{IsConsistent}
use Rattle.plan_layout.specs.declared.pipe.Parallelism.{Parallelism}
use Rattle.plan_layout.specs.Layouts.{layout_of}
use Rattle.plan_layout.specs.Pipes.{PipeForm, pipe_view}
use Rattle.plan_layout.specs.declared.pipe.Pipe.{Pipe}
use Rattle.tree_evaluator.specs.Fits.{FitsTables}
use Rattle.net_making.specs.Nets as made

-- a net: its plan, its pipes and its drivers
pub record NetState : Type 0 where
  pub plan : Plan
  pub pipes : List Pipe
  pub drivers : List DriverState

abbrev pub plan_in : NetState → PlanForm
plan_in net = plan_view net.plan

abbrev pub layout_in : NetState → List PipeForm
layout_in net = map pipe_view net.pipes

-- the drivers were just made for its pipes over these tables
abbrev pub IsOverTables : List (List Row) → NetState → Type 0
IsOverTables tables net = (split : ℕ) × made.IsNewNetOf (layout_in net) tables split net.drivers

-- they were made for the layout of the plan, whose tree fits the tables
pub record IsNetOf (plan : PlanForm) (tables : List (List Row)) (net : NetState) : Type 0 where
  pub of : plan_in net ≡ plan
  pub consistent : IsConsistent plan
  pub first : FragmentForm
  pub is_first : slice_get plan.fragments 0 ≡ Some first
  pub parallelism : Parallelism
  pub some : 0 < parallelism.tasks
  pub laid : layout_in net ≡ layout_of parallelism plan
  pub fits : FitsTables (tree_of plan) tables
  pub over : IsOverTables tables net

-- why a run gave no rows: an expression of the tree may fail with this kind, or memory was wanting
abbrev pub FailsFor : TreeForm → List (List Row) → RunFault → Type 0
FailsFor tree tables (ExprFailed node kind) = MayFail tree tables node kind
FailsFor tree tables Memory = Unit {0}

-- its drivers were just made over some tables
pub record IsSomeNet (net : NetState) : Type 0 where
  pub tables : List (List Row)
  pub over : IsOverTables tables net
