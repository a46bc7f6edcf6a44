pub mod Levels
pub mod Picks
pub mod Queue
pub mod Shares
