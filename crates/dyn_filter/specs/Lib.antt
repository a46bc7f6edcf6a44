pub mod Lists
pub mod Spans
pub mod Domains
pub mod Cells
pub mod Slots
pub mod Rows
pub mod Filters
pub mod FilterLaws
