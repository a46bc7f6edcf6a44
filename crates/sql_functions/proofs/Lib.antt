pub mod LikeLemmas
pub mod FitLemmas
pub mod CastFitLemmas
pub mod PrintLemmas
pub mod TypeLemmas
pub mod CalmCastLemmas
pub mod DistinctLemmas
