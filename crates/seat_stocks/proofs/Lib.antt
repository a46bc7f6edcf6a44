pub mod ShelfLemmas
pub mod LabelLemmas
