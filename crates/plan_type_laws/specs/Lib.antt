pub mod Tables
pub use Rattle.tree_type_laws.specs.TypedTrees
