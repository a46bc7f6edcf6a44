pub mod TypedTrees
