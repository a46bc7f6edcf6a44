pub mod Windows
pub mod Fetches
