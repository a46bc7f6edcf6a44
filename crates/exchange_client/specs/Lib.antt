pub mod Clients
pub mod Fetches
pub mod Steps
