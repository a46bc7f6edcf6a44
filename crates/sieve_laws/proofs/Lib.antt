pub mod StandLemmas
pub mod OverLemmas
mod LaneFailLemmas
pub mod FailLemmas
pub mod DropLemmas
pub mod SplitLemmas
pub mod FilterOpLemmas
pub mod SureLemmas
mod WithinLemmas
pub mod ComingLemmas
mod PlainLemmas
mod WorkedPipes
pub mod TypedLemmas
