pub mod Sorting
pub mod SortingLaws
pub mod Numbers
pub mod Buckets
