pub mod Edges
pub mod Scans
