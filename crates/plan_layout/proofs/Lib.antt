pub mod SideLemmas
pub mod PipeLemmas
pub mod LayoutLemmas
pub mod FetchLemmas
pub mod FilterLemmas
pub mod ScanFilterLemmas
