-- How the tables and the work of a run are cut.
use Rattle.std.specs.Prelude.{◌<◌, ◌≤◌}
use Rattle.plan_layout.specs.declared.pipe.Parallelism.{Parallelism}
use Rattle.task_executor.specs.declared.shape.Shape.{Shape}
pub use Rattle.net_making.specs.Makings.{AreFew}

-- there is a task and a driver; a split, a page and a turn have a row, and a page no more than the most
pub record IsShape (shape : Shape) : Type 0 where
  pub tasks : 0 < shape.tasks
  pub drivers : 0 < shape.drivers
  pub split : 0 < shape.split
  pub page : 0 < shape.page
  pub few : shape.page ≤ 8192
  pub quantum : 0 < shape.quantum

-- how many tasks and drivers there are where there may be several
abbrev pub parallelism_of : Shape → Parallelism
parallelism_of shape = record { tasks = shape.tasks; drivers = shape.drivers }
