pub mod Weights
pub mod Gather
pub mod Buckets
pub mod Grouping
pub mod Pieces
pub mod Firsts
pub mod Laws
