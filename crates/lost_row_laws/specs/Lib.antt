pub mod Sieves
pub mod Runs
pub mod Arrivals
pub mod Domains
pub mod Nets
pub mod Stops
pub mod Faults
