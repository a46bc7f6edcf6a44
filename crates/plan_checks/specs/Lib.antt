pub mod Shapes
pub mod Limits
pub mod Types
pub mod Names
pub mod Fragments
pub mod Halves
pub mod Documents
