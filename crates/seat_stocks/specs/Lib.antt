pub mod Shelves
pub mod Stocks
pub mod Labels
pub mod Lanes
