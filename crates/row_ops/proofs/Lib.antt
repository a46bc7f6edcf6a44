pub mod OwnLemmas
pub mod JudgeLemmas
pub mod HeldLemmas
pub mod LimitLemmas
pub mod ValueLemmas
