pub mod JudgeLemmas
pub mod ReachLemmas
pub mod SizeLemmas
