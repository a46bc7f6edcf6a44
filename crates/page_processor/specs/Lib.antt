pub mod Judged
pub mod Typed
pub mod Positions
pub mod Columns
