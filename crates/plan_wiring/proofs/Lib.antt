pub mod BellLemmas
pub mod ShareLemmas
pub mod UnusedLemmas
pub mod SeatLemmas
