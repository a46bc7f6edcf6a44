pub mod EdgeLemmas
pub mod SeatLemmas
pub mod PartitionLemmas
pub mod PlaceLemmas
mod WorkedRows
