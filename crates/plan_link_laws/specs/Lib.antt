pub mod Consistent
pub use Rattle.plan_reader.specs.Trees
pub use Rattle.plan_reader.specs.Judgement
pub use Rattle.plan_reader.specs.Filters
pub use Rattle.plan_reader.specs.Reaches
