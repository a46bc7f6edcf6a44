pub mod Shares
pub mod Bells
pub mod Wirings
pub mod Handed
