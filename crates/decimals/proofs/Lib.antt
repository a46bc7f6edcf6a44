pub mod PowerLemmas
pub mod MagnitudeLemmas
pub mod RangeLemmas
