pub mod FormLemmas
pub mod CellLemmas
pub mod ScanLemmas
pub mod NodeLemmas
pub mod PlanLemmas
pub use Rattle.tree_type_laws.proofs.TreeLemmas
