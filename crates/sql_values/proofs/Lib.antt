pub mod OrderLemmas
pub mod BlockLemmas
pub mod RowListLemmas
pub mod ColumnRowsLemmas
pub mod HashLemmas
pub mod TypeTextLemmas
pub mod FitLemmas
pub mod SharedLemmas
