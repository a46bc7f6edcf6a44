pub mod Appends
pub mod Booleans
pub mod Numbers
pub mod Decimals
pub mod Dates
