pub mod BuildFilterLemmas
pub mod BuildLemmas
pub mod NoteLemmas
pub mod TargetLemmas
pub mod RowsLemmas
pub mod DriverLemmas
pub mod StepLemmas
pub mod OneListLemmas
