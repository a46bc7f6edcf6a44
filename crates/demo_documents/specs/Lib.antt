pub mod Lines
pub mod Orders
pub mod Customers
pub mod Plans
