pub mod OperandLemmas
pub mod PlaceLemmas
pub mod CompareLemmas
pub mod LaneLemmas
pub mod MarkLemmas
pub mod KeptLemmas
pub mod ChainLemmas
pub mod ChoiceLemmas
