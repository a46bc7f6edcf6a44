pub mod Claims
pub mod Seats
pub mod Gathered
pub mod InClaims
pub mod InClaimSeat
pub mod Splits
pub mod Scans
pub mod InScanSource
