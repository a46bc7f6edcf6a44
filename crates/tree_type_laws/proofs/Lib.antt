pub mod RowLemmas
pub mod JudgeLemmas
pub mod JoinLemmas
pub mod TreeLemmas
