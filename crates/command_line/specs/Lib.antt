pub mod Items
pub mod Options
pub mod Found
pub mod Words
