pub mod Pipelines
pub mod Meanings
pub mod RowMeanings
pub mod GroupMeanings
pub use Rattle.tree_evaluator.specs.Fits
