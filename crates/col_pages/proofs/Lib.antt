pub mod PageLemmas
pub mod CellLemmas
