pub mod NumberLemmas
pub mod CellLemmas
pub mod ScanLemmas
pub mod TypedLemmas
pub mod SoundLemmas
mod RunFitLemmas
mod ReadLemmas
pub mod ConsistentLemmas
