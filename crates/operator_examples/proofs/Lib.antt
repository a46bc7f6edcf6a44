pub mod HeldLemmas
pub mod SampleLemmas
