pub mod ReplayLemmas
pub mod WritingLemmas
