pub mod FetchLemmas
pub mod StepLemmas
