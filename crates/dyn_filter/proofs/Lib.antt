pub mod ListLemmas
pub mod DomainLemmas
pub mod CellLemmas
pub mod LostLemmas
mod HashedLemmas
mod FilterLemmas
mod WorkedDomains
