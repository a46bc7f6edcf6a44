pub mod RowTypes
pub mod Faults
pub mod Cells
pub mod Aggregates
pub mod Operators
pub mod Nodes
pub mod Plans
