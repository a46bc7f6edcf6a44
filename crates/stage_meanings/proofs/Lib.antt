pub mod MeaningLemmas
pub mod RowLemmas
pub mod ActLemmas
pub mod OrderLemmas
pub mod GroupLemmas
pub use Rattle.row_ops.proofs.OwnLemmas
