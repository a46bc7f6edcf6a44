pub mod Held
pub mod Parts
pub mod Closing
pub mod Left
pub mod Counts
pub mod Covered
pub mod Results
pub mod Back
