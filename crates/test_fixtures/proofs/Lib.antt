pub mod RowLemmas
