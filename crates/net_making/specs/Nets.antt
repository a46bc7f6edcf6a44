-- Drivers that were just made for a layout.
use Rattle.std.specs.Prelude.{◌≡◌, ℕ, ◌<◌, ◌*◌, List, All, Some, max, slice_get}
use Rattle.sql_values.specs.declared.types.SqlType.{SqlType}
use Rattle.plan_run_laws.specs.Spreads.{Tables}
use Rattle.net_parts.specs.Drivers.{DriverState}
use Rattle.net_parts.specs.Pipes.{PipeForm, table}
use Rattle.net_parts.specs.Nets.{AreDriversOf, NetForm}
use Rattle.net_making.specs.Slots.{IsNew}

-- the pipe has a task
abbrev pub HasTask : PipeForm → Type 0
HasTask pipe = 0 < pipe.tasks

-- they are those of a layout over tables that are read in splits of a size, and new. The claims of a table have a seat for each
-- driver of its pipe, and one also where there is no driver
pub record IsNewNetOf (layout : List PipeForm) (tables : Tables) (split : ℕ) (drivers : List DriverState) : Type 0 where
  pub net : NetForm
  pub of : net.layout ≡ layout
  pub over : net.tables ≡ tables
  pub cut : net.split ≡ split
  pub are : AreDriversOf net drivers
  pub seats : (at : ℕ) (pipe : PipeForm) (place : ℕ) (columns : List ℕ) (kinds : List SqlType) → slice_get layout at ≡ Some pipe
      → pipe.source ≡ table place columns kinds → (net.links.claims at).of.seats ≡ max (pipe.tasks * pipe.drivers) 1
  pub fresh : All IsNew drivers
