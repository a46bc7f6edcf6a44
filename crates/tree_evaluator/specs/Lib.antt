pub mod Pages
pub mod Fits
pub mod Stops
