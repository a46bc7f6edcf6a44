pub mod Items
pub mod Turns
pub mod Turned
pub mod Pools
pub mod Gathered
