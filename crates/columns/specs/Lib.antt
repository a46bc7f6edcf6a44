pub mod Pieces
pub mod Present
