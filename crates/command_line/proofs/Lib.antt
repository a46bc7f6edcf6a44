pub mod BoundLemmas
mod WordLemmas
mod ClassLemmas
mod FoundLemmas
mod ParseLemmas
mod JobLemmas
mod ReadLemmas
