pub mod EntryLemmas
pub mod DepthLemmas
pub mod WalkLemmas
