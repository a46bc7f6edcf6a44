pub mod LevelLemmas
pub mod PickLemmas
pub mod ChangeLemmas
pub mod ShareLemmas
