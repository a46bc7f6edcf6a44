-- What a `Driver` keeps.
use Rattle.std.specs.Prelude.{length}
use Rattle.driver_loop.specs.Drivers.{DriverState, IsBuilt, IsDriver, IsWhole}
use Rattle.driver_loop.specs.Turns.{AreEmpty, HaveRoomFor, filters_of}
use Rattle.driver_loop.specs.declared.driver.Driver.TheInside.{Inside}

abbrev pub driver_view : {C : Type 0} → Inside C → DriverState
driver_view d = record {
  number = d.number;
  source = d.source;
  stages = d.stages.items;
  target = d.target;
  work = d.work;
  is_finished = d.is_finished;
  fault = d.fault;
}

-- there is room for the notes and counts of each stage and those of the target
pub record IsInDriver {C : Type 0} (d : Inside C) : Type 0 where
  pub driver : IsDriver (driver_view d)
  pub built : IsWhole d.fault → IsBuilt (driver_view d)
  pub none : AreEmpty d.lists
  pub room : IsWhole d.fault → HaveRoomFor (length d.stages.items) (length (filters_of d.target)) d.lists
