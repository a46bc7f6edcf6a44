pub mod Rings
pub mod Bells
pub mod Refusals
