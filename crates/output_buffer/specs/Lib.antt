pub mod Edges
pub mod Seats
pub mod Joined
pub mod InGather
pub mod InSpread
pub mod Partitions
