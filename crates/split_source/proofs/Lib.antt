pub mod ClaimLemmas
pub mod NumberLemmas
pub mod JoinLemmas
pub mod SeatLemmas
pub mod SplitLemmas
pub mod ScanLemmas
