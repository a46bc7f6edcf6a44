pub mod HeldLemmas
pub mod StageLemmas
pub mod LinkLemmas
pub mod TurnLemmas
pub mod ChainLemmas
pub mod MadeLemmas
