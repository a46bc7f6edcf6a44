pub mod EachLemmas
pub mod TypeLemmas
pub mod StageLemmas
pub mod StepLemmas
pub mod FrontLemmas
