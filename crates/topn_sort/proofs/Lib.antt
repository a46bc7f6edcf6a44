pub mod PlaceLemmas
pub mod NumberLemmas
pub mod WordLemmas
pub mod BucketLemmas
pub mod TopLemmas
pub mod BufferLemmas
mod OrderedLemmas
