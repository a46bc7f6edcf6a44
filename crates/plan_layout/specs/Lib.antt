pub mod Pipes
pub mod Steps
pub mod Sides
pub mod Edges
pub mod Layouts
pub mod Runs
pub mod Filters
