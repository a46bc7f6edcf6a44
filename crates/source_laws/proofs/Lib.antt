pub mod HopLemmas
pub mod PutLemmas
pub mod TakeLemmas
pub mod SentLemmas
pub mod ScanLemmas
