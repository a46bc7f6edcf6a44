pub mod PositionLemmas
pub mod JudgedLemmas
pub mod FilterLemmas
pub mod ProjectLemmas
pub mod FitLemmas
