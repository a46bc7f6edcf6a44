pub mod Statuses
pub mod Lines
pub mod Jobs
pub mod Demos
pub mod Loading
pub mod Answers
pub use Rattle.task_executor.specs.Shapes
