pub mod Operands
pub mod Comparisons
pub mod Lanes
pub mod Kept
pub mod Chains
pub mod Choices
