pub mod Json
pub mod Words
pub mod Tables
pub mod Grammar
pub mod Spots
